use Rattle.std.proofs.Common.{◌≡◌, ◌+◌, ◌-◌, ◌^◌, ◌≤◌, length, map, min, sum_by}
use Rattle.fx_plan_effects.specs.Effects.{act}
use Rattle.fx_plan_effects.specs.Bounds.{hold_all, hold_of_act}
use Rattle.fx_plan_effects.proofs.bounds.hold.Given as goal

abbrev pub decreases-loop-effect : goal.decreases-loop-effect
decreases-loop-effect l = length l.rest

abbrev pub invariant-loop-effect : goal.invariant-loop-effect
invariant-loop-effect l = record {
  value : min (l.total + sum_by hold_of_act (map act l.rest)) (2 ^ 64 - 1) ≡ min (hold_all (map act l.effects)) (2 ^ 64 - 1);
  bound : l.total ≤ 2 ^ 64 - 1;
}
