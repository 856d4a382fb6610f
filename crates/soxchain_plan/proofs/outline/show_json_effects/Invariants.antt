use Rattle.std.proofs.Common.{◌≡◌, take, nat_eq}
use Rattle.std.specs.Io.KnownBytes.{Appends}
use Rattle.soxchain_plan.specs.Shown.{effects_json}
use Rattle.soxchain_plan.proofs.outline.show_json_effects.Given as goal

abbrev pub invariant-loop-effect : goal.invariant-loop-effect
invariant-loop-effect g l = record {
  first : l.is_first ≡ nat_eq l.effect-index 0;
  written : Appends (g.W.Write.contents l.fn.writer) (g.W.Write.contents l.writer) (effects_json (take l.effect-index l.effects));
}
