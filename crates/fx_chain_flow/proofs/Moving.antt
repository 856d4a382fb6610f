use Rattle.std.proofs.Common.{ℕ, zero, suc, ◌+◌, ◌<◌, ◌≤◌, true, List, [], ◌∷◌, ◌≡◌, length, drop, min, cond, nat_eq, add-zero, zero-add, inl, inr, arith, refl, ap, ◌∙◌, Some, None, Option}
use Prim.Native.Nat.compare
use Rattle.fx_frame_base.specs.Frame.{Samples}
use Rattle.fx_frame_base.specs.Stage.{Acts}
use Rattle.fx_frame_base.specs.Holds.{kinds, recipes, hold_sum}
use Rattle.fx_chain_flow.specs.Parts.{Parts, AllDry, AllDetermined, AllNew, IsLastWet, IsWetEnd, IsFirstOpen, HandedOver, PipelineFed, EndPassed, through, wholes}
use Rattle.fx_chain_flow.specs.Composed.{Whole, frames_of, clips_given, composed, composed_wholes}
use Rattle.fx_chain_flow.specs.Moving.{CanMove, MovedFrom}
use Rattle.fx_chain_flow.specs.Sound.{IsSound}
use Rattle.fx_chain_flow.specs.Steps.{Steps, MovedOn, step_of}
use Rattle.fx_chain_flow.specs.declared.flow.Step.TheVariants.{Idle}
use Rattle.fx_chain_flow.proofs.HandOvers.{AllDetermined-dry, IsLastWet-lt, IsLastWet-dry}
use Rattle.fx_chain_flow.proofs.Steps.{CanHandOver-sound, CanFeed-sound, IsSound-over, IsSound-feed, Steps-over, Steps-feed}

module _ {S R : Type 0} (acts : Acts S R) where
  -- the stages after one that gave, and after the next one, are as they were
  determined-over : (i : ℕ) (out : Option Samples) (old new : List S) → IsLastWet acts i old → HandedOver acts i out old new → AllDetermined acts (drop (suc (suc i)) new)
  determined-over zero (Some frame) (s ∷ []) (s' ∷ []) wet over = tt
  determined-over zero None (s ∷ t ∷ stages) (s' ∷ t' ∷ stages') wet over = rw over.3 wet.1.2
  determined-over (suc i) out (s ∷ stages) (s' ∷ stages') wet over = determined-over i out stages stages' wet over.1
  determined-over i out old new wet over = absurd over

  determined-fed : (frame : Samples) (out : Option Samples) (old new : List S) → AllDetermined acts old → PipelineFed acts frame out old new → AllDetermined acts (drop 1 new)
  determined-fed frame (Some x) [] [] dry fed = tt
  determined-fed frame None (s ∷ stages) (s' ∷ stages') dry fed = rw fed.1 dry.2
  determined-fed frame out old new dry fed = absurd fed

  determined-minimum : (n m : ℕ) (stages : List S) → m ≡ min (length stages) n → AllDetermined acts (drop n stages) → AllDetermined acts (drop m stages)
  determined-minimum n zero [] e h = tt
  determined-minimum n (suc m) [] e h = tt
  determined-minimum zero zero (s ∷ stages) e h = h
  determined-minimum zero (suc m) (s ∷ stages) e h = absurd (omega arith)
  determined-minimum (suc n) zero (s ∷ stages) e h = absurd (omega arith)
  determined-minimum (suc n) (suc m) (s ∷ stages) e h = determined-minimum n m stages (omega arith) h

  -- the stages past the place are dry
  pub determined-after : (place : ℕ) (inlet inlet' out : Option Samples) (old new : List S) → IsWetEnd acts place old → MovedFrom acts place inlet inlet' out old new → AllDetermined acts (drop (min (length new) (place + 1)) new)
  determined-after zero inlet inlet' out old new wet moved = determined-minimum 1 _ new (omega arith) (determined-fed moved.0 out old new wet moved.3)
  determined-after (suc i) inlet inlet' out old new wet moved = determined-minimum (suc (suc i)) _ new (omega arith) (determined-over i out old new wet moved.1)

  -- where none is not dry, all are dry
  pub determined-none : (place : ℕ) (stages : List S) → place ≤ 0 → IsWetEnd acts place stages → AllDetermined acts stages
  determined-none zero stages none wet = wet
  determined-none (suc i) stages none wet = absurd (omega arith)

  pub wet-some : (place : ℕ) (stages : List S) → 0 < place → IsWetEnd acts place stages → AllDry acts stages → ⊥
  wet-some zero stages some wet dry = omega arith
  wet-some (suc i) stages some wet dry = IsLastWet-dry acts i stages wet dry

  pub determined-dry : (place : ℕ) (stages : List S) → IsWetEnd acts place stages → AllDry acts stages → AllDetermined acts stages
  determined-dry zero stages wet dry = wet
  determined-dry (suc i) stages wet dry = absurd (IsLastWet-dry acts i stages wet dry)

  -- there are fewer stages than frames that they may hold
  pub count-le : (stages : List S) → length stages ≤ hold_sum (kinds acts stages)
  count-le [] = omega arith
  count-le (s ∷ stages) = let h = count-le stages in omega arith

  pub IsWetEnd-le : (place : ℕ) (stages : List S) → IsWetEnd acts place stages → place ≤ length stages
  IsWetEnd-le zero stages wet = omega arith
  IsWetEnd-le (suc i) stages wet = let h = IsLastWet-lt acts i stages wet in omega arith

  -- what is still to be given by new stages is what their definitions say
  pub through-AllNew : (stages : List S) → AllNew acts stages → (z : List Samples) → through acts stages z ≡ composed acts.meaning (recipes acts stages) z
  through-AllNew [] new z = refl
  through-AllNew (s ∷ stages) new z = ap (λ w. through acts stages (frames_of w)) (new.0.rest z) ∙ through-AllNew stages new.1 _

  pub wholes-AllNew : (stages : List S) → AllNew acts stages → (z : List Samples) → wholes acts stages z ≡ composed_wholes acts.meaning (recipes acts stages) z
  wholes-AllNew [] new z = refl
  wholes-AllNew (s ∷ stages) new z =
      rw (new.0.counts, new.0.rest z, zero-add, zero-add) (ap (λ (w : List Whole). record { given = length (acts.meaning (acts.recipe s) z); clips = clips_given (acts.meaning (acts.recipe s) z) } ∷ w) (wholes-AllNew stages new.1 _))

  module _ (rises : (r : R) (m n : ℕ) → m ≤ n → (acts.kind_of r).maximum m ≤ (acts.kind_of r).maximum n) where
    -- where something is to be moved, it may be
    pub CanMove-sound : (f : Parts S) (place : ℕ) → IsSound acts f → IsWetEnd acts place f.stages → ((place ≡ 0) × (f.inlet ≡ None) → ⊥) → CanMove acts place f.inlet f.stages
    CanMove-sound f zero sound wet some = from-inlet f.inlet refl
      where
        from-inlet : (inlet : Option Samples) → f.inlet ≡ inlet → CanMove acts zero f.inlet f.stages
        from-inlet None e = absurd (some (refl, e))
        from-inlet (Some frame) e = (frame, e, CanFeed-sound acts rises f frame sound wet e)
    CanMove-sound f (suc i) sound wet some = CanHandOver-sound acts rises f i sound wet

    -- the flow after a frame was moved
    abbrev pub after_move : Parts S → ℕ → Option Samples → List S → Parts S
    after_move f place inlet stages = record f { stages = stages; inlet = inlet; left = f.left + cond (nat_eq place 0) 1 0 }

    pub IsSound-move : (f : Parts S) (place : ℕ) (inlet out : Option Samples) (stages : List S) → IsSound acts f → IsWetEnd acts place f.stages → MovedFrom acts place f.inlet inlet out f.stages stages → IsSound acts (after_move f place inlet stages)
    IsSound-move f zero inlet out stages sound wet moved = rw moved.2 (IsSound-feed acts rises f moved.0 out stages sound wet moved.1 moved.3)
    IsSound-move f (suc i) inlet out stages sound wet moved = rw (moved.0, compare.suc-zero, add-zero) (IsSound-over acts rises f i out stages sound wet moved.1)

    pub Steps-move : (f : Parts S) (place : ℕ) (inlet out : Option Samples) (stages : List S) → IsSound acts f → IsWetEnd acts place f.stages → MovedFrom acts place f.inlet inlet out f.stages stages → Steps acts f (step_of out) (after_move f place inlet stages)
    Steps-move f zero inlet out stages sound wet moved = rw moved.2 (Steps-feed acts rises f moved.0 out stages sound wet moved.1 moved.3)
    Steps-move f (suc i) inlet out stages sound wet moved = rw (moved.0, compare.suc-zero, add-zero) (Steps-over acts rises f i out stages sound wet moved.1)

    pub MovedOn-move : (f : Parts S) (place : ℕ) (inlet out : Option Samples) (stages : List S) → IsWetEnd acts place f.stages → MovedFrom acts place f.inlet inlet out f.stages stages → MovedOn acts f (step_of out) (after_move f place inlet stages)
    MovedOn-move f zero inlet out stages wet moved =
        rw moved.2 (inr (inl (record { frame = moved.0; out = out; dry = AllDetermined-dry acts f.stages wet; inlet = moved.1; fed = moved.3; delivered = refl; others = refl })))
    MovedOn-move f (suc i) inlet out stages wet moved =
        rw (moved.0, compare.suc-zero, add-zero) (inl (record { place = i; out = out; last = wet; over = moved.1; delivered = refl; others = refl }))

    -- the flow after the end was passed on
    abbrev pub after_passing : Parts S → List S → Parts S
    after_passing f stages = record f { stages = stages }

    pub MovedOn-pass : (f : Parts S) (i : ℕ) (stages : List S) → IsSound acts f → f.ended ≡ true → AllDetermined acts f.stages → IsFirstOpen acts i f.stages → EndPassed acts i f.stages stages → MovedOn acts f Idle (after_passing f stages)
    MovedOn-pass f i stages sound over dry first passed =
        inr (inr (record { place = i; dry = dry; empty = sound.closed over; ended = over; first = first; passed = passed; delivered = refl; others = refl }))
