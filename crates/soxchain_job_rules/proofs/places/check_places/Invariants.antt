use Rattle.std.proofs.Common.{take}
use Rattle.soxchain_job_rules.specs.Places.{AreApart}
use Rattle.soxchain_job_rules.proofs.places.check_places.Given as goal

abbrev pub invariant-loop-index : goal.invariant-loop-index
invariant-loop-index l = AreApart l.inputs (take l.index l.own)
