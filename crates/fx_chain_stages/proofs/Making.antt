-- What a plan says of an effect is what its stage asks for.
use Rattle.std.proofs.Common.{◌≡◌, ℕ, ◌≤◌, ◌<◌, List, [], ◌∷◌, ◌++◌, true, length, refl, arith, ap, sym, ◌∙◌, Bool, nat_le, nat_lt}
use Rattle.std.specs.List.{All, list_all}
use Rattle.std.proofs.lemmas.Bool.{and_parts}
use Rattle.std.proofs.lemmas.List.Elements.{All-cons, All-nil}
use Rattle.std.proofs.lemmas.List.Folds.{list_all-map}
use Rattle.smallvec.specs.SmallVec.{SmallVec}
use Rattle.std.proofs.lemmas.Bool.Decides.{nat_tests}
use Rattle.fx_cut.specs.declared.fade.words.Fading.{Fading}
use Rattle.fx_cut.specs.Fade.{FadeArguments}
use Rattle.fx_cut.specs.FadeState.{fade_acts}
use Rattle.fx_cut.specs.Pad.{IsPads, PadArguments, RisesFrom, ats}
use Rattle.fx_cut.specs.PadState.{PadState, pad_acts}
use Rattle.fx_cut.specs.Selected.{SelectedState}
use Rattle.fx_cut.specs.Trim.{TrimArguments}
use Rattle.fx_cut.specs.TrimState.{trim_acts}
use Rattle.fx_cut.specs.FadeExtents.{effective}
use Rattle.fx_fixed.specs.declared.positions.At.{At}
use Rattle.fx_fixed.specs.declared.positions.At.TheVariants.{Start, End}
use Rattle.fx_tap_pointwise.specs.declared.out_spec.Weight.{Weight}
use Rattle.fx_chain_flow.specs.Parts.{AllNew}
use Rattle.fx_frame_base.specs.Stage.{IsNew}
use Rattle.fx_frame.specs.Tapped.{TapState}
use Rattle.fx_tap_delays.specs.Delay.{every_delay}
use Rattle.fx_tap_delays.specs.DelayState.{delay_acts}
use Rattle.fx_tap_delays.specs.Echo.{EchoArguments, EchoValue}
use Rattle.fx_tap_delays.specs.EchoState.{echo_acts}
use Rattle.fx_cut.specs.PadWords.{Length, are_pads, are_rising}
use Rattle.fx_tap_pointwise.specs.RemixWords.{is_mix, specs_in}
use Rattle.fx_plan_effects.specs.Effects.{Act, channels_after}
use Rattle.fx_plan_effects.specs.Registry.{OfDelay, OfEcho, OfFade, OfPad, OfTrim}
use Rattle.fx_plan_effects.specs.Meanings.{InPlace, Placed, line_of_act, recipe_at}
use Rattle.fx_chain_stages.specs.declared.registry.EffectStage.{EffectStage}
use Rattle.fx_chain_stages.specs.declared.registry.EffectStage.TheVariants as stages
use Rattle.fx_chain_stages.specs.Stages.{effect_acts}
use Rattle.fx_chain_stages.specs.Made.{recipes_for}
use Rattle.fx_frame_base.specs.Holds.{recipes}
use Rattle.fx_plan_effects.specs.Bounds.{hold_all, hold_of_act}
use Rattle.std.proofs.lemmas.List.Sums.{sum_by-cons}

-- what tests of numbers say
pub no-more : (m n : ℕ) → nat_le m n ≡ true → m ≤ n
no-more m n h = grind (arith, nat_tests)

rises : (minimum : ℕ) (pads : List Length) → are_rising minimum (ats pads) ≡ true → RisesFrom minimum (ats pads)
rises minimum [] h = tt
rises minimum ((n, Start p) ∷ pads) h =
    let parts = and_parts (nat_le minimum p) (are_rising p (ats pads)) h in
    (grind (arith, nat_tests, parts.0), rises p pads parts.1)
rises minimum ((n, End b) ∷ pads) h = tt

pub pads-are : (pads : List Length) → are_pads pads ≡ true → IsPads pads
pads-are pads h =
    let parts = and_parts (are_rising 0 (ats pads)) _ h in
    record { rising = rises 0 pads parts.0; short = grind (arith, nat_tests, parts.1) }

-- what follows of each where all pass a test
all-hold : {X : Type 0} (p : X → Bool) (P : X → Type 0) → ((x : X) → p x ≡ true → P x) → (xs : List X) → list_all p xs ≡ true → All P xs
all-hold p P each [] h = All-nil P
all-hold p P each (x ∷ xs) h =
    let parts = and_parts (p x) (list_all p xs) h in
    All-cons P x xs (each x parts.0) (all-hold p P each xs parts.1)

-- what `remix` asks of its out-specs
mix-is : (channels : ℕ) (spec : List (ℕ × Weight)) → is_mix channels spec ≡ true → (length spec ≤ 64) × All (λ c. c.0 < channels) spec
mix-is channels spec h =
    let parts = and_parts (nat_le (length spec) 64) (list_all (λ (c : ℕ × Weight). nat_lt c.0 channels) spec) h in
    (no-more _ _ parts.0, all-hold (λ (c : ℕ × Weight). nat_lt c.0 channels) (λ (c : ℕ × Weight). c.0 < channels) (λ c k. grind (arith, nat_tests)) spec parts.1)

pub mixes-are : (channels : ℕ) (specs : List (SmallVec (ℕ × Weight))) → list_all (is_mix channels) (specs_in specs) ≡ true
    → All (λ spec. length spec.items ≤ 64) specs × All (λ spec. All (λ c. c.0 < channels) spec.items) specs
mixes-are channels specs h =
    let each = sym (list_all-map (is_mix channels) (λ (s : SmallVec (ℕ × Weight)). s.items) specs) ∙ h in (
      all-hold _ (λ (s : SmallVec (ℕ × Weight)). length s.items ≤ 64) (λ s k. (mix-is channels s.items k).0) specs each,
      all-hold _ (λ (s : SmallVec (ℕ × Weight)). All (λ (c : ℕ × Weight). c.0 < channels) s.items) (λ s k. (mix-is channels s.items k).1) specs each,
    )

-- a new stage after new ones
pub AllNew-push : (stages : List EffectStage) (s : EffectStage) → AllNew effect_acts stages → IsNew effect_acts (effect_acts.recipe s) s → AllNew effect_acts (stages ++ s ∷ [])
AllNew-push [] s all new = (new, tt)
AllNew-push (t ∷ stages) s all new = (all.0, AllNew-push stages s all.1 new)

-- a stage of `delay` has a delay for each channel
pub delay-made : (channels : ℕ) (ds : List ℕ) (s : TapState (List ℕ)) → length (every_delay channels ds) ≡ channels → delay_acts.recipe s ≡ every_delay channels ds
    → effect_acts.recipe (stages.Delay s) ≡ recipe_at (InPlace channels (OfDelay ds))
delay-made channels ds s long is = ap (λ (l : List ℕ). InPlace (length l) (OfDelay l)) is ∙ ap (λ n. InPlace n (OfDelay (every_delay channels ds))) long

pub delay-new : (channels : ℕ) (ds : List ℕ) (s : TapState (List ℕ)) → length (every_delay channels ds) ≡ channels → IsNew delay_acts (every_delay channels ds) s
    → IsNew effect_acts (recipe_at (InPlace channels (OfDelay ds))) (stages.Delay s)
delay-new channels ds s long new = record { recipe = delay-made channels ds s long new.recipe; rest = new.rest; counts = new.counts; dry = new.dry; stored = new.stored; state_counters = new.state_counters }

-- a new stage of an effect with a line is a new stage of any effect
pub trim-new : (channels : ℕ) (ps : List At) (s : SelectedState TrimArguments) → IsNew trim_acts (record { channels = channels; positions = ps }) s → IsNew effect_acts (recipe_at (InPlace channels (OfTrim ps))) (stages.Trim s)
trim-new channels ps s new = record { recipe = ap (λ (r : TrimArguments). InPlace r.channels (OfTrim r.positions)) new.recipe; rest = new.rest; counts = new.counts; dry = new.dry; stored = new.stored; state_counters = new.state_counters }

pub pad-new : (channels : ℕ) (pads : List Length) (s : PadState) → IsNew pad_acts (record { channels = channels; pads = pads }) s → IsNew effect_acts (recipe_at (InPlace channels (OfPad pads))) (stages.Pad s)
pad-new channels pads s new = record { recipe = ap (λ (r : PadArguments). InPlace r.channels (OfPad r.pads)) new.recipe; rest = new.rest; counts = new.counts; dry = new.dry; stored = new.stored; state_counters = new.state_counters }

pub echo-new : (channels : ℕ) (e : EchoValue) (s : TapState EchoArguments) → IsNew echo_acts (record { channels = channels; echo = e }) s → IsNew effect_acts (recipe_at (InPlace channels (OfEcho e))) (stages.Echo s)
echo-new channels e s new = record { recipe = ap (λ (r : EchoArguments). InPlace r.channels (OfEcho r.echo)) new.recipe; rest = new.rest; counts = new.counts; dry = new.dry; stored = new.stored; state_counters = new.state_counters }

pub fade-new : (channels : ℕ) (f : Fading) (s : SelectedState FadeArguments) → IsNew fade_acts (record { channels = channels; shape = record { fade_in = f.fade_in; stop = effective f.stop; fade_out = f.fade_out } }) s → IsNew effect_acts (recipe_at (InPlace channels (OfFade f))) (stages.Fade s)
fade-new channels f s new = record { recipe = ap (λ (r : FadeArguments). InPlace r.channels (OfFade (record { fade_in = r.shape.fade_in; stop = r.shape.stop; fade_out = r.shape.fade_out }))) new.recipe; rest = new.rest; counts = new.counts; dry = new.dry; stored = new.stored; state_counters = new.state_counters }

-- effects after one hold no more than all together, and neither does the one
pub hold-tail : (a : Act) (acts : List Act) (maximum : ℕ) → hold_all (a ∷ acts) ≤ maximum → (line_of_act a ≤ maximum) × (hold_all acts ≤ maximum)
hold-tail a acts maximum h =
    let parts = sum_by-cons hold_of_act a acts in
    (omega (arith, h, parts), omega (arith, h, parts))

-- a stage after others, as the recipes say
pub made-more : (stages : List EffectStage) (s : EffectStage) (channels : ℕ) (a : Act) (acts : List Act) (all : List Placed)
    → effect_acts.recipe s ≡ recipe_at (InPlace channels a)
    → recipes effect_acts stages ++ recipes_for channels (a ∷ acts) ≡ all
    → recipes effect_acts (stages ++ s ∷ []) ++ recipes_for (channels_after channels a) acts ≡ all
made-more [] s channels a acts all is h = rw (is) h
made-more (t ∷ stages) s channels a acts all is h = made-front (effect_acts.recipe t) _ _ all (made-more stages s channels a acts _ is refl) h where
  made-front : (r : Placed) (xs ys : List Placed) (all : List Placed) → xs ≡ ys → r ∷ ys ≡ all → r ∷ xs ≡ all
  made-front r xs ys all same h = ap (λ (rs : List Placed). r ∷ rs) same ∙ h
