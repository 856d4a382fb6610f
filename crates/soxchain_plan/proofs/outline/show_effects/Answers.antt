use Rattle.std.proofs.Common.{arith}
use Rattle.soxchain_plan.proofs.ShownLemmas.{effect_lines-taken}
use Rattle.soxchain_plan.proofs.Writing.{appends_both}
use Rattle.soxchain_plan.proofs.outline.show_effects.Goals as goal

pub loop-effect-preserved : goal.loop-effect-preserved
loop-effect-preserved g c = record {
  counted = omega arith;
  written = appends_both _ _ _ _ _ _ (effect_lines-taken c.args.effects.now c.loop-effect.effect-index c.saturating_add-number.result _ c.loop-effect-test.true (omega arith)) c.loop-effect.invariant.written c.in_ok-show.ensures;
}
