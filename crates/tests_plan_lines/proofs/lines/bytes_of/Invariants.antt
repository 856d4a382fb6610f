use Rattle.std.proofs.Common.{length}
use Rattle.tests_plan_lines.proofs.lines.bytes_of.Given as goal

abbrev pub decreases-loop-rest : goal.decreases-loop-rest
decreases-loop-rest l = length l.rest
