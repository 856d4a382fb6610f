use Rattle.std.proofs.Common.{◌≡◌, ◌⊎◌, ◌+◌, ◌-◌, ◌*◌, ◌<◌, ◌≤◌}
use Rattle.soxchain_job.proofs.Pieces.{HasConverted}
use Rattle.soxchain_job.proofs.run.convert_pieces.Given as goal

abbrev pub ghost-advance : goal.ghost-advance
ghost-advance g a = g.job

abbrev pub invariant-loop-done : goal.invariant-loop-done
invariant-loop-done g l = record {
  converted : HasConverted g.C.Conversion.model g.D.Disk.model g.I.Input.model g.job l.fn.offsets.taken l.fn.disk l.disk l.fn.input l.input l.conversion l.offsets;
  bound : l.done ≤ l.pace.every;
  pieces : (g.I.Input.model.size l.input ≤ l.offsets.taken) ⊎ (l.offsets.taken ≡ l.fn.offsets.taken + l.done * l.pace.piece);
  none : l.done ≡ 0 → l.offsets.taken ≡ l.fn.offsets.taken;
  advances : 0 < l.done → l.fn.offsets.taken < l.offsets.taken;
}

abbrev pub decreases-loop-done : goal.decreases-loop-done
decreases-loop-done g l = g.I.Input.model.size l.input - l.offsets.taken
