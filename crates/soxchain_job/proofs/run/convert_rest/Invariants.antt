use Rattle.std.proofs.Common.{◌-◌}
use Rattle.soxchain_job.proofs.Pieces.{HasConverted}
use Rattle.soxchain_job.proofs.run.convert_rest.Given as goal

abbrev pub ghost-convert_to_checkpoint : goal.ghost-convert_to_checkpoint
ghost-convert_to_checkpoint g a = g.job

abbrev pub invariant-loop-offsets : goal.invariant-loop-offsets
invariant-loop-offsets g l = HasConverted g.C.Conversion.model g.D.Disk.model g.I.Input.model g.job l.fn.offsets.taken l.fn.disk l.disk l.fn.input l.input l.conversion l.offsets

abbrev pub decreases-loop-offsets : goal.decreases-loop-offsets
decreases-loop-offsets g l = g.I.Input.model.size l.input - l.offsets.taken
