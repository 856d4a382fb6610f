use Rattle.std.proofs.Common.{◌≡◌, take}
use Rattle.std.specs.Io.KnownBytes.{Appends}
use Rattle.soxchain_plan.specs.Shown.{effect_lines}
use Rattle.soxchain_plan.proofs.outline.show_effects.Given as goal

abbrev pub invariant-loop-effect : goal.invariant-loop-effect
invariant-loop-effect g l = record {
  counted : l.number ≡ l.effect-index;
  written : Appends (g.W.Write.contents l.fn.writer) (g.W.Write.contents l.writer) (effect_lines 1 (take l.effect-index l.effects));
}
