use Rattle.std.proofs.Common.{None}
use Rattle.soxchain_job_cli.proofs.convert.run_unknown.Given as goal

-- any job does, since nothing is known
abbrev pub ghost-run_once : goal.ghost-run_once
ghost-run_once g a = record { start = a.conversion.now; input = g.I.Input.model.content a.input.now; before = None; reached = 0 }
