use Rattle.std.proofs.Common.{◌≡◌, ℕ, ◌^◌, ◌<◌, ◌≤◌, ◌++◌, None, Some, drop, map, sum_by}
use Rattle.std.specs.List.{All}
use Rattle.fx_plan_effects.specs.Bounds.{hold_of_act}
use Rattle.fx_plan_effects.specs.Effects.{Usable, act}
use Rattle.soxchain_plan.proofs.Made.{Counted}
use Rattle.soxchain_plan.specs.Outlines.{bytes_along, known, rates_along, stated, stated_bytes, stated_frames, stated_rate}
use Rattle.soxchain_plan.proofs.outline.outlines_of.Given as goal

abbrev pub invariant-effects : goal.invariant-effects
invariant-effects l = record {
  stated : map stated l.outlines.items ++ map known (map act (drop l.effect-index l.effects)) ≡ map known (map act l.effects);
  rates : map stated_rate l.outlines.items ++ rates_along l.input_rate (map act (drop l.effect-index l.effects)) ≡ rates_along l.fn.rate (map act l.effects);
  bytes : map stated_bytes l.outlines.items ++ bytes_along l.inputs (map act (drop l.effect-index l.effects)) ≡ bytes_along l.fn.channels (map act l.effects);
  usable : All Usable (map act (drop l.effect-index l.effects));
  held : sum_by hold_of_act (map act (drop l.effect-index l.effects)) < 2 ^ 28;
  bound : l.inputs ≤ 16;
  counted : (n : ℕ) → l.fn.frames ≡ Some n → n ≤ 2 ^ 40 → Counted (map act l.effects) (map act (drop l.effect-index l.effects)) (map stated_frames l.outlines.items) l.left n;
  unknown : l.fn.frames ≡ None → All (λ outline. outline.frames ≡ None) l.outlines.items;
  end : l.fn.frames ≡ None → l.left ≡ None;
}
