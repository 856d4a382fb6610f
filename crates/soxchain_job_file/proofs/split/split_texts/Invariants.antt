use Rattle.std.proofs.Common.{map, string_bytes, flat_map}
use Rattle.soxchain_job_file.specs.JobBytes.{FitsText, text_bytes}
use Rattle.soxchain_job_file.specs.Splits.{SoMany, Splits}
use Rattle.soxchain_job_file.proofs.split.split_texts.Given as goal

abbrev pub invariant-texts : goal.invariant-texts
invariant-texts l = Splits (flat_map text_bytes) (SoMany FitsText l.counter) l.bytes (map string_bytes l.texts.items) l.rest
