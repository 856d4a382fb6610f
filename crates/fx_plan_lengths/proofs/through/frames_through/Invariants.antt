use Rattle.std.proofs.Common.{◌≡◌, ◌^◌, ◌≤◌, drop, map}
use Rattle.std.specs.List.{All}
use Rattle.fx_plan_effects.specs.Effects.{Usable, act}
use Rattle.fx_plan_lengths.proofs.Made.{Along}
use Rattle.fx_plan_lengths.proofs.through.frames_through.Given as goal

abbrev pub invariant-effects : goal.invariant-effects
invariant-effects l = record {
  usable : All Usable (map act (drop l.effect-index l.effects));
  counted : l.fn.frames ≤ 2 ^ 40 → Along (map act l.effects) (map act (drop l.effect-index l.effects)) l.left l.fn.frames;
}
