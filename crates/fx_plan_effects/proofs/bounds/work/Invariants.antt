use Rattle.std.proofs.Common.{◌≡◌, ◌+◌, ◌*◌, ◌^◌, ◌≤◌, length, map, false}
use Rattle.std.specs.List.{All, list_any}
use Rattle.fx_plan_effects.specs.Effects.{Usable, act}
use Rattle.fx_plan_effects.specs.Bounds.{is_beyond_limit, maxima, work_of}
use Rattle.fx_plan_effects.proofs.bounds.work.Given as goal

abbrev pub decreases-loop-effect : goal.decreases-loop-effect
decreases-loop-effect l = length l.rest

abbrev pub invariant-loop-effect : goal.invariant-loop-effect
invariant-loop-effect l = record {
  value : l.total + work_of (map act l.rest) l.frames ≡ work_of (map act l.effects) l.fn.frames;
  usable : All Usable (map act l.rest);
  short : list_any is_beyond_limit (maxima (map act l.rest) l.frames) ≡ false;
  bound : l.total + (length l.rest + 1) * 2 ^ 56 ≤ 33 * 2 ^ 56;
}
