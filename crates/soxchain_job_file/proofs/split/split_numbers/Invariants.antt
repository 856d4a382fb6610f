use Rattle.std.proofs.Common.{flat_map}
use Rattle.soxchain_job_file.specs.JobBytes.{FitsWord, word_bytes}
use Rattle.soxchain_job_file.specs.Splits.{SoMany, Splits}
use Rattle.soxchain_job_file.proofs.split.split_numbers.Given as goal

abbrev pub invariant-numbers : goal.invariant-numbers
invariant-numbers l = Splits (flat_map word_bytes) (SoMany FitsWord l.counter) l.bytes l.numbers.items l.rest
