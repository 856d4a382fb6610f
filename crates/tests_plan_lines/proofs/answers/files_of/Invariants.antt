use Rattle.std.proofs.Common.{◌≤◌, ◌-◌, length}
use Rattle.fx_plan.specs.CommandLines.{coefficient_files, effects_in}
use Rattle.tests_plan_lines.proofs.answers.files_of.Given as goal

abbrev pub decreases-loop-alloc : goal.decreases-loop-alloc
decreases-loop-alloc l = length (coefficient_files (effects_in l.line)) - length l.found.items

abbrev pub invariant-loop-alloc : goal.invariant-loop-alloc
invariant-loop-alloc l = length l.found.items ≤ length (coefficient_files (effects_in l.line))
