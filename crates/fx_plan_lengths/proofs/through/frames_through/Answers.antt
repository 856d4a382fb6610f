-- Effect by effect, what was made and what is still to be made are together what the effects make.
use Rattle.std.proofs.Common.{◌≡◌, ℕ, ◌+◌, ◌^◌, ◌<◌, [], ◌∷◌, List, drop, get_or, length, refl, map, sym, ap, ◌∙◌, subst}
use Rattle.std.specs.List.{All}
use Rattle.std.proofs.lemmas.List.{drop_more, drop_all}
use Rattle.std.proofs.lemmas.List.Elements.{All-head, All-tail}
use Rattle.fx_chain_flow.specs.Composed.{composed}
use Rattle.fx_chain_stages.specs.Made.{recipes_for}
use Rattle.fx_plan.specs.Planning.{planning}
use Rattle.fx_plan_effects.proofs.Lasting.{within-fewer}
use Rattle.fx_plan_effects.specs.Effects.{Act, Usable, act}
use Rattle.fx_plan_effects.specs.Meanings.{meaning_at}
use Rattle.fx_plan_effects.specs.declared.registry.Effect.{Effect}
use Rattle.fx_plan_lengths.proofs.Made.{Along, along-more, by_number, composed-made, made_last}
use Rattle.fx_plan_lengths.proofs.through.frames_through.Goals as goal

pub effects-init : goal.effects-init
effects-init c = record {
  usable = c.effects-effects.ensures.usable;
  counted = λ b. record { last = refl; short = within-fewer (map act c.effects-effects.result.now) c.args.frames (2 ^ 40) b c.effects-effects.ensures.short };
}

-- the first of those that are still to come
usable-next : (effects : List Effect) (i : ℕ) (e : Effect) → i < length effects → e ≡ get_or effects i e → All Usable (map act (drop i effects)) → Usable (act e)
usable-next effects i e h is usable =
    let cut : drop i effects ≡ e ∷ drop (i + 1) effects = drop_more effects i e h ∙ ap (λ x. x ∷ drop (i + 1) effects) (sym is) in
    All-head Usable (act e) (map act (drop (i + 1) effects)) (rw cut at usable)

pub frames_after-left-requires-clause-usable : goal.frames_after-left-requires-clause-usable
frames_after-left-requires-clause-usable c = usable-next c.effects-effects.result.now c.effects.effect-index c.effect-item.result c.effects-test.true c.effect-item.is c.effects.invariant.usable

pub effects-preserved : goal.effects-preserved
effects-preserved c =
    let effects = c.effects-effects.result.now in
    let e = c.effect-item.result in
    let more : List Effect = drop (c.effects.effect-index + 1) effects in
    let cut : drop c.effects.effect-index effects ≡ e ∷ more = drop_more effects c.effects.effect-index e c.effects-test.true ∙ ap (λ x. x ∷ more) (sym c.effect-item.is) in
    record {
      usable = All-tail Usable (act e) (map act more) (rw cut at c.effects.invariant.usable);
      counted = λ b. along-more (map act effects) (map act more) (act e) c.effects.left c.frames_after-left.result c.args.frames (rw cut at (c.effects.invariant.counted b))
          (by_number (act e) 1 c.effects.left c.frames_after-left.result (λ sound l. c.frames_after-left.ensures 1 sound l));
    }

pub returns : goal.returns
returns c = λ sound e b.
    let effects = c.effects-effects.result.now in
    let plan = planning c.args.plan.now in
    let over : drop c.effects.effect-index effects ≡ [] = drop_all c.effects.effect-index effects c.effects-test.false in
    let all : Along (map act effects) [] c.effects.left c.args.frames = rw over at (c.effects.invariant.counted b) in
    all.last ∙ sym (ap (λ n. made_last (map act effects) n) e) ∙ sym (composed-made plan.head.channels (map act effects) sound)
    ∙ ap (λ (acts : List Act). length (composed meaning_at (recipes_for plan.head.channels acts) sound)) c.effects-effects.ensures.value
