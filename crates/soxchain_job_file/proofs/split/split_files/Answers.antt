use Rattle.soxchain_job_file.specs.JobBytes.{FitsWord, word_bytes}
use Rattle.soxchain_job_file.proofs.Splitting.{list_result}
use Rattle.soxchain_job_file.proofs.split.split_files.Goals as goal

pub returns-in-Some : goal.returns-in-Some
returns-in-Some c =
    list_result word_bytes FitsWord (λ split. split.0.items) (λ split. split.1.now) c.args.bytes.now c.in-Some.rest.now c.in-Some.count c.split_numbers.result
    c.in-Some.ensures c.split_numbers.ensures
