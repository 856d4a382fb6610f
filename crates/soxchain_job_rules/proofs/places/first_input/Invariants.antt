use Rattle.std.proofs.Common.{take}
use Rattle.soxchain_job_rules.specs.Places.{IsApartFrom}
use Rattle.soxchain_job_rules.proofs.places.first_input.Given as goal

abbrev pub invariant-loop-index : goal.invariant-loop-index
invariant-loop-index l = IsApartFrom l.place (take l.index l.inputs)
