use Rattle.fx_plan.specs.CommandLines.{coefficient_files, effects_in}
use Rattle.fx_plan.specs.Plans.{plan_bytes}
use Rattle.soxchain_common.proofs.Fronts.{AreSoFar}
use Rattle.soxchain_common.proofs.files.read_files.Given as goal

abbrev pub invariant-loop-place : goal.invariant-loop-place
invariant-loop-place g l = AreSoFar (record { opened = g.H.Openings.opened; unopened = g.H.Openings.unopened; closed = g.H.Openings.closed }) g.H.Reader.ByteIn.reads l.fn.host l.host (coefficient_files (effects_in l.line)) (plan_bytes l.files.items) l.place
