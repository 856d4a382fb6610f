use Rattle.std.proofs.Common.{◌≡◌, ◌++◌, length, map}
use Rattle.fx_plan_effects.specs.Effects.{act}
use Rattle.fx_plan.proofs.planned.copy_effects.Given as goal

abbrev pub decreases-loop-effect : goal.decreases-loop-effect
decreases-loop-effect l = length l.rest

abbrev pub invariant-loop-effect : goal.invariant-loop-effect
invariant-loop-effect l = map act l.copies.items ++ map act l.rest ≡ map act l.effects
