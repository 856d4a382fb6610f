use Rattle.std.proofs.Common.{take}
use Rattle.soxchain_job_rules.specs.Places.{IsApartFromOwn}
use Rattle.soxchain_job_rules.proofs.places.first_own.Given as goal

abbrev pub invariant-loop-file : goal.invariant-loop-file
invariant-loop-file l = IsApartFromOwn l.place (take l.file-index l.own)
