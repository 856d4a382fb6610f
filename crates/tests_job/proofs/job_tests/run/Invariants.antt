use Rattle.std.proofs.Common.{[], None}
use Rattle.tests_job.proofs.job_tests.run.Given as goal

-- any job does, since nothing is known
abbrev pub ghost-run_once : goal.ghost-run_once
ghost-run_once g a = record { start = a.conversion.now; input = []; before = None; reached = 0 }
