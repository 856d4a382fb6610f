-- Effect by effect, what is told and what is still to be told are together what the effects are.
use Rattle.std.proofs.Common.{◌≡◌, ℕ, ◌+◌, ◌^◌, ◌<◌, ◌++◌, [], ◌∷◌, List, None, Some, append-nil, drop, get_or, length, refl, map, sym, ap, ◌∙◌, arith}
use Rattle.std.specs.List.{All}
use Rattle.std.proofs.lemmas.List.{drop_more, drop_all}
use Rattle.std.proofs.lemmas.List.Elements.{All-head, All-tail}
use Rattle.std.proofs.lemmas.List.Sums.{sum_by-cons}
use Rattle.fx_plan_effects.proofs.Lasting.{within-fewer}
use Rattle.fx_plan_effects.specs.Bounds.{hold_of_act}
use Rattle.fx_plan_effects.specs.Effects.{Usable, act, channels_after}
use Rattle.fx_plan_effects.specs.declared.registry.Effect.{Effect}
use Rattle.soxchain_plan.specs.Outlines.{bytes_along, known, rate_after, rates_along, stated, stated_bytes, stated_frames, stated_rate}
use Rattle.soxchain_plan.proofs.Made.{all-more, all-none, appended, begun, by-number, composed-made, counted-more, bound-after, map-more, wholes-made}
use Rattle.soxchain_plan.proofs.outline.outlines_of.Goals as goal

pub effects-init : goal.effects-init
effects-init c = let empty = c.new-outlines.ensures.items in record {
  stated = rw empty refl;
  rates = rw empty refl;
  bytes = rw empty refl;
  usable = c.requires.usable;
  held = omega arith;
  bound = c.requires.bound;
  counted = λ n e b. rw empty (begun (map act c.args.effects.now) c.args.frames n e (within-fewer (map act c.args.effects.now) n (2 ^ 40) b c.requires.short));
  unknown = λ e. all-none (λ outline. outline.frames ≡ None) c.new-outlines.result.items empty;
  end = λ e. e;
}

-- the first of those that are still to come
usable-next : (effects : List Effect) (i : ℕ) (e : Effect) → i < length effects → e ≡ get_or effects i e → All Usable (map act (drop i effects)) → Usable (act e)
usable-next effects i e h is usable =
    let cut : drop i effects ≡ e ∷ drop (i + 1) effects = drop_more effects i e h ∙ ap (λ x. x ∷ drop (i + 1) effects) (sym is) in
    All-head Usable (act e) (map act (drop (i + 1) effects)) (rw cut at usable)

pub outline_of_effect-outline-requires-clause-usable : goal.outline_of_effect-outline-requires-clause-usable
outline_of_effect-outline-requires-clause-usable c = usable-next c.args.effects.now c.effects.effect-index c.effect-item.result c.effects-test.true c.effect-item.is c.effects.invariant.usable

pub rate_after-input_rate-requires : goal.rate_after-input_rate-requires
rate_after-input_rate-requires c = usable-next c.args.effects.now c.effects.effect-index c.effect-item.result c.effects-test.true c.effect-item.is c.effects.invariant.usable

pub effects-preserved : goal.effects-preserved
effects-preserved c =
    let i = c.effects.invariant in
    let e = c.effect-item.result in
    let more : List Effect = drop (c.effects.effect-index + 1) c.args.effects.now in
    let cut : drop c.effects.effect-index c.args.effects.now ≡ e ∷ more = drop_more c.args.effects.now c.effects.effect-index e c.effects-test.true ∙ ap (λ x. x ∷ more) (sym c.effect-item.is) in
    let items = c.in_ok-push.ensures.items in
    let outline = c.outline_of_effect-outline in
    let usable = rw cut at i.usable in
    let held = rw cut at i.held in
    record {
      stated = ap (λ l. l ++ map known (map act more)) (map-more stated c.effects.outlines.items c.push.new.self.items outline.result items)
          ∙ appended (map stated c.effects.outlines.items) (map known (map act more)) (map known (map act c.args.effects.now)) (stated outline.result) (known (act e)) (rw cut at i.stated) outline.ensures.stated;
      rates =
          let after = c.rate_after-input_rate.ensures in
          ap (λ n. map stated_rate c.push.new.self.items ++ rates_along n (map act more)) after
          ∙ ap (λ l. l ++ rates_along (rate_after (act e) c.effects.input_rate) (map act more)) (map-more stated_rate c.effects.outlines.items c.push.new.self.items outline.result items)
          ∙ appended (map stated_rate c.effects.outlines.items) (rates_along (rate_after (act e) c.effects.input_rate) (map act more)) _ outline.result.rate _ (rw cut at i.rates) outline.ensures.rate;
      bytes =
          let after = c.channels_after-inputs.ensures in
          ap (λ n. map stated_bytes c.push.new.self.items ++ bytes_along n (map act more)) after
          ∙ ap (λ l. l ++ bytes_along (channels_after c.effects.inputs (act e)) (map act more)) (map-more stated_bytes c.effects.outlines.items c.push.new.self.items outline.result items)
          ∙ appended (map stated_bytes c.effects.outlines.items) (bytes_along (channels_after c.effects.inputs (act e)) (map act more)) _ outline.result.bytes _ (rw cut at i.bytes) outline.ensures.bytes;
      usable = All-tail Usable (act e) (map act more) usable;
      held = omega (arith, held, sum_by-cons hold_of_act (act e) (map act more));
      bound = let bound = bound-after c.effects.inputs (act e) (All-head Usable (act e) (map act more) usable) i.bound in omega (arith, bound, c.channels_after-inputs.ensures);
      counted = λ n s b. rw (map-more stated_frames c.effects.outlines.items c.push.new.self.items outline.result items)
          (counted-more (map act c.args.effects.now) (map act more) (act e) (map stated_frames c.effects.outlines.items) c.effects.left outline.result.frames n (rw cut at (i.counted n s b))
          (λ m l. by-number (act e) c.effects.inputs m c.effects.left outline.result.frames outline.ensures.frames l));
      unknown = λ s. all-more (λ outline. outline.frames ≡ None) c.effects.outlines.items c.push.new.self.items outline.result items (i.unknown s) (outline.ensures.unknown (i.end s));
      end = λ s. outline.ensures.unknown (i.end s);
    }

pub returns-clause-each : goal.returns-clause-each
returns-clause-each c = λ sound s b.
    let over : drop c.effects.effect-index c.args.effects.now ≡ [] = drop_all c.effects.effect-index c.args.effects.now c.effects-test.false in
    let all = rw over at (c.effects.invariant.counted (length sound) s b) in
    sym (append-nil (map stated_frames c.effects.outlines.items)) ∙ all.each ∙ sym (wholes-made c.args.channels (map act c.args.effects.now) sound)

pub returns-clause-last : goal.returns-clause-last
returns-clause-last c = λ sound s b.
    let over : drop c.effects.effect-index c.args.effects.now ≡ [] = drop_all c.effects.effect-index c.args.effects.now c.effects-test.false in
    let all = rw over at (c.effects.invariant.counted (length sound) s b) in
    all.is ∙ ap Some (all.last ∙ sym (composed-made c.args.channels (map act c.args.effects.now) sound))
