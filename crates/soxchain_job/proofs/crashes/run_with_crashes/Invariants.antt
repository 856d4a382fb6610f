use Rattle.std.proofs.Common.{◌≤◌, ◌≡◌}
use Rattle.soxchain_job.specs.Disk.{LeavesThrough}
use Rattle.soxchain_job.specs.Image.{Image}
use Rattle.soxchain_job.specs.Job.{IsRecoverable}
use Rattle.soxchain_job.proofs.crashes.run_with_crashes.Given as goal

abbrev pub ghost-run_once : goal.ghost-run_once
ghost-run_once g a = g.job

abbrev pub invariant-loop : goal.invariant-loop
invariant-loop g l = record {
  content : g.I.Input.model.content l.input ≡ g.I.Input.model.content l.fn.input;
  failures : g.I.Input.model.failures l.fn.input ≤ g.I.Input.model.failures l.input;
  faults : g.D.Disk.model.faults l.fn.disk ≤ g.D.Disk.model.faults l.disk;
  sound : (i : Image) → g.D.Disk.model.left_since l.disk (g.D.Disk.model.began l.disk) i → IsRecoverable g.C.Conversion.model g.job i;
  through : LeavesThrough g.D.Disk.model l.fn.disk l.disk (IsRecoverable g.C.Conversion.model g.job);
}
