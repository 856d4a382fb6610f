use Rattle.std.proofs.Common.{◌≡◌, ◌⊎◌, ℕ, inl, inr}
use Rattle.fx_cut.specs.declared.fade.words.Fading.{Fading}
use Rattle.fx_plan_effects.specs.Effects.{act}
use Rattle.fx_plan_effects.specs.Meanings.{InPlace, kind_at, line_of_act, recipe_at}
use Rattle.fx_plan_effects.specs.declared.registry.Effect.{Effect}
use Rattle.fx_plan_effects.specs.declared.registry.Effect.TheVariants.{Trim, Pad, Fade}
use Rattle.soxchain_plan.proofs.Lateness.{fade-waits, pad-waits, trim-waits}
use Rattle.soxchain_plan.proofs.lengths.lateness.Goals as goal

-- an effect with positions waits for the frames of its line
waits : (effect : Effect) (channels : ℕ) → ((x : _) × (effect ≡ Trim x)) ⊎ (((x : _) × (effect ≡ Pad x)) ⊎ ((x : Fading) × (effect ≡ Fade x)))
    → (kind_at (recipe_at (InPlace channels (act effect)))).due (line_of_act (act effect)) ≡ 0
waits effect channels (inl (positions, e)) = rw e (trim-waits positions.items)
waits effect channels (inr (inl (pads, e))) = rw e (pad-waits pads.items)
waits effect channels (inr (inr (fade, e))) = rw e (fade-waits fade.stop fade.fade_out)

pub returns-in-Trim-2-clause-none_due : goal.returns-in-Trim-2-clause-none_due
returns-in-Trim-2-clause-none_due c = λ same channels. rw same (waits c.args.effect.now channels c.in-Trim.is)
