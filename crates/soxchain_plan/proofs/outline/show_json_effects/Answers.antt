use Rattle.std.proofs.Common.{◌<◌, ◌≡◌, arith, refl}
use Rattle.std.proofs.lemmas.Bool.Decides.{nat_tests}
use Rattle.soxchain_plan.proofs.ShownLemmas.{effects_json-begun, effects_json-taken}
use Rattle.soxchain_plan.proofs.Writing.{appends_both}
use Rattle.soxchain_plan.proofs.outline.show_json_effects.Goals.{then-not-is_first+in_ok-write, else-not-is_first}
use Rattle.soxchain_plan.proofs.outline.show_json_effects.Goals as goal

pub loop-effect-preserved : goal.loop-effect-preserved
loop-effect-preserved g c = record {
  first = grind (arith, nat_tests);
  written = elim c.if-not-is_first.branch [
    | then-not-is_first+in_ok-write w ↦
        let rest_unchanged : 0 < c.loop-effect.effect-index = grind (arith, nat_tests, c.loop-effect.invariant.first, w.if-not-is_first.true) in
        appends_both _ _ _ _ _ _ (effects_json-taken c.args.effects.now c.loop-effect.effect-index _ c.loop-effect-test.true rest_unchanged) c.loop-effect.invariant.written
        (appends_both _ _ _ _ _ _ refl w.in_ok-write.ensures.bytes (rw w.writer-is at c.in_ok-show_json.ensures))
    | else-not-is_first w ↦
        let begun : c.loop-effect.effect-index ≡ 0 = grind (arith, nat_tests, c.loop-effect.invariant.first, w.if-not-is_first.false) in
        appends_both _ _ _ _ _ _ (effects_json-begun c.args.effects.now c.loop-effect.effect-index _ c.loop-effect-test.true begun) c.loop-effect.invariant.written
        (rw w.writer-is at c.in_ok-show_json.ensures)
  ];
}
