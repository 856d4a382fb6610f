use Rattle.std.proofs.Common.{map, string_bytes}
use Rattle.soxchain_job_file.specs.JobBytes.{FitsText, text_bytes}
use Rattle.soxchain_job_file.proofs.Splitting.{list_result}
use Rattle.soxchain_job_file.proofs.split.split_words.Goals as goal

pub returns-in-Some : goal.returns-in-Some
returns-in-Some c =
    list_result text_bytes FitsText (λ split. map string_bytes split.0.items) (λ split. split.1.now) c.args.bytes.now c.in-Some.rest.now c.in-Some.count
    c.split_texts.result c.in-Some.ensures c.split_texts.ensures
