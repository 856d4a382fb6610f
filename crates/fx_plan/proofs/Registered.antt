-- Written by scripts/effects from effects/*.toml. Do not edit.
-- What `==` says of two effects: it is exact.
use Rattle.std.proofs.Common.{◌≡◌, ℕ, refl, ap}
use Rattle.std.specs.Bool.{Decides}
use Rattle.std.specs.Cmp.{unsigned_Decides, signed_Decides}
use Rattle.std.proofs.lemmas.Bool.Decides.{Decides-like}
use Rattle.std.specs.Cmp.Lexicographic.{pointwise_decides}
use Rattle.fx_plan_effects.specs.declared.registry.Effect.{Effect}
use Rattle.fx_plan_effects.specs.declared.registry.Effect.TheVariants as effects
use Rattle.fx_plan_effects.specs.contracts.registry.Effect as effect
use Rattle.fx_plan_effects.specs.contracts.registry.EffectPartialEq.TheImpl as effect_eq
use Rattle.fx_plan_effects.specs.Effects.{Act, act}
use Rattle.fx_plan_effects.specs.Registry.Act.{OfTrim, OfPad, OfDelay, OfEcho, OfEchos, OfFade, OfVol, OfDcShift, OfFir, OfRemix, OfUpsample, OfDownsample}
use Rattle.fx_plan.proofs.Alike.{◌&◌, exact_stated, place}
use Rattle.fx_plan.proofs.Exact.{always, at_exact, mapped_exact, pair_exact, echoing_exact, fading_exact, weight_exact}

-- which effect it is, and its arguments
abbrev number_of : Act → ℕ
number_of (OfTrim ps) = 0
number_of (OfPad pads) = 1
number_of (OfDelay ds) = 2
number_of (OfEcho e) = 3
number_of (OfEchos e) = 4
number_of (OfFade fade) = 5
number_of (OfVol gain) = 6
number_of (OfDcShift shift) = 7
number_of (OfFir gains) = 8
number_of (OfRemix specs) = 9
number_of (OfUpsample factor) = 10
number_of (OfDownsample factor) = 11

numbered : (e : Effect) → number_of (act e) ≡ place (effect.enum).parts ((effect.enum).as_values e)
numbered (effects.Trim ps) = refl
numbered e = refl

pub effect_exact : (a b : Effect) → Decides ((effect_eq.ghosts).eq a b) (act a ≡ act b)
effect_exact = exact_stated effect.enum act number_of numbered _ (
    (λ x y. Decides-like _ (ap OfTrim) (λ e. cc) (pointwise_decides at_exact x.0.items y.0.items)) &
    (λ x y. Decides-like _ (ap OfPad) (λ e. cc) (pointwise_decides (pair_exact unsigned_Decides at_exact) x.0.items y.0.items)) &
    (λ x y. Decides-like _ (ap OfDelay) (λ e. cc) (pointwise_decides unsigned_Decides x.0.items y.0.items)) &
    (λ x y. Decides-like _ (ap OfEcho) (λ e. cc) (echoing_exact x.0 y.0)) &
    (λ x y. Decides-like _ (ap OfEchos) (λ e. cc) (echoing_exact x.0 y.0)) &
    (λ x y. Decides-like _ (ap OfFade) (λ e. cc) (fading_exact x.0 y.0)) &
    (λ x y. Decides-like _ (ap OfVol) (λ e. cc) (signed_Decides x.0 y.0)) &
    (λ x y. Decides-like _ (ap OfDcShift) (λ e. cc) (signed_Decides x.0 y.0)) &
    (λ x y. Decides-like _ (ap OfFir) (λ e. cc) (pointwise_decides signed_Decides x.0.items y.0.items)) &
    (λ x y. Decides-like _ (ap OfRemix) (λ e. cc) (mapped_exact (λ spec. spec.items) (λ v w. pointwise_decides (pair_exact unsigned_Decides weight_exact) v.items w.items) x.0.items y.0.items)) &
    (λ x y. Decides-like _ (ap OfUpsample) (λ e. cc) (unsigned_Decides x.0 y.0)) &
    (λ x y. Decides-like _ (ap OfDownsample) (λ e. cc) (unsigned_Decides x.0 y.0)) &
    tt
    )
