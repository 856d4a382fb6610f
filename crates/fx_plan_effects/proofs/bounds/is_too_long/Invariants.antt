use Rattle.std.proofs.Common.{◌≡◌, ◌^◌, ◌≤◌, length, map}
use Rattle.std.specs.List.{All, list_any}
use Rattle.fx_plan_effects.specs.Effects.{Usable, act}
use Rattle.fx_plan_effects.specs.Bounds.{is_beyond_limit, is_too_long, maxima}
use Rattle.fx_plan_effects.proofs.bounds.is_too_long.Given as goal

abbrev pub decreases-loop-effect : goal.decreases-loop-effect
decreases-loop-effect l = length l.rest

abbrev pub invariant-loop-effect : goal.invariant-loop-effect
invariant-loop-effect l = record {
  value : list_any is_beyond_limit (maxima (map act l.rest) l.frames) ≡ is_too_long (map act l.effects);
  bound : l.frames ≤ 2 ^ 56;
  usable : All Usable (map act l.rest);
}
