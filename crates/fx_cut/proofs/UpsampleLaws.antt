-- The frames that `upsample` gives, along the list.
use Rattle.std.proofs.Common.{ℕ, zero, suc, ◌+◌, ◌-◌, ◌*◌, ◌<◌, ◌≡◌, ◌/◌, ◌^◌, List, ◌∷◌, ◌++◌, length, refl, sym, ap, ◌∙◌, arith, replicate, zero-add, add-one, sub-one, Option, Some, None, false, true, ◌&&◌, nat_eq, option_to_list, is_none}
use Rattle.std.proofs.Math.Nat.{mod-eq_of_lt, div-eq_of_lt, div-le_self, add-mod_left, add-div_left, suc-mul}
use Rattle.std.proofs.lemmas.List.{length-replicate}
use Rattle.fx_frame_base.specs.Stage.{Gave, Took, Given}
use Rattle.fx_cut.specs.UpsampleState.{UpsampleState, IsUpsample, upsample_acts}
use Prim.Native.Nat.compare
use Rattle.fx_frame_base.specs.Frame.{Samples, silence}
use Rattle.fx_frame_base.specs.Lists.{tabulate}
use Rattle.fx_frame_base.specs.Given.{plain}
use Rattle.fx_cut.specs.Upsample.{upsampled, upsampled_at}
use Rattle.fx_frame_base.proofs.Tabulate.{tabulate-append, tabulate-same, tabulate-replicate}
use Rattle.fx_frame_base.specs.StageCore.{after_offering, pending_frames}
use Rattle.fx_frame_base.specs.PendingFrame.{IsPending}
use Rattle.fx_frame_base.proofs.Cores.{IsCore-offered}
use Rattle.fx_frame.proofs.DryLaws.{dry-pending, dry-tail}

module _ (channels factor : ℕ) (some : 0 < factor) (x : Samples) (z : List Samples) where
  at_first : upsampled_at channels factor (x ∷ z) 0 ≡ x
  at_first = rw (mod-eq_of_lt some, div-eq_of_lt some) refl

  at_silent : (k : ℕ) → suc k < factor → upsampled_at channels factor (x ∷ z) (suc k) ≡ silence channels
  at_silent k h = rw (mod-eq_of_lt h, compare.suc-zero) refl

  at_rest : (k : ℕ) → upsampled_at channels factor (x ∷ z) (factor + k) ≡ upsampled_at channels factor z k
  at_rest k = rw (add-mod_left factor k, add-div_left k some, add-one) refl

  pub upsampled-cons : upsampled channels factor (x ∷ z) ≡ plain x ∷ (replicate (factor - 1) (plain (silence channels)) ++ upsampled channels factor z)
  upsampled-cons =
      let F : ℕ → Given = λ n. plain (upsampled_at channels factor (x ∷ z) n) in
      let n : ℕ = length z * factor in
      let e : length (x ∷ z) * factor ≡ suc (factor - 1) + n = omega arith in
      let middle : tabulate F 1 (factor - 1) ≡ replicate (factor - 1) (plain (silence channels)) = tabulate-replicate F _ 1 (factor - 1) (λ k h.
      let one : 1 + k ≡ suc k = omega arith in
      rw one (ap plain (at_silent k (omega arith)))) in
      let last : tabulate F (0 + suc (factor - 1)) n ≡ upsampled channels factor z = tabulate-same F _ _ 0 n (λ k h.
      let a : 0 + suc (factor - 1) + k ≡ factor + k = omega arith in
      rw (a, zero-add) (ap plain (at_rest k))) in
      ap (tabulate F 0) e ∙ tabulate-append F 0 (suc (factor - 1)) n
      ∙ ap (λ a. a ∷ (tabulate F 1 (factor - 1) ++ tabulate F (0 + suc (factor - 1)) n)) (ap plain at_first)
      ∙ ap (λ m. plain x ∷ (m ++ tabulate F (0 + suc (factor - 1)) n)) middle
      ∙ ap (λ l. plain x ∷ (replicate (factor - 1) (plain (silence channels)) ++ l)) last

-- the next of the silent frames
silent-first : (n : ℕ) (p : Given) (after : List Given) → 0 < n → replicate n p ++ after ≡ p ∷ (replicate (n - 1) p ++ after)
silent-first zero p after h = absurd (omega arith)
silent-first (suc n) p after h = rw sub-one refl

-- where it is dry no silent frame is left
pub none-silent : (frame : Option Samples) (n : ℕ) → (is_none frame && nat_eq n 0) ≡ true → n ≡ 0
none-silent frame zero h = refl
none-silent frame (suc n) h = absurd (let k = dry-tail frame (suc n) (omega arith) in cc)

-- it takes a frame
pub Took-upsample : (s : UpsampleState) (frame : Samples) → IsUpsample s → upsample_acts.dry s ≡ true → s.core.ended ≡ false → Took upsample_acts s (record s { core = after_offering frame 0 s.core; silent = s.recipe.factor - 1 }) frame
Took-upsample s frame is dry running =
    record {
      rest = λ z. rw (running, dry-pending s.core.pending s.silent dry, none-silent s.core.pending s.silent dry) (sym (upsampled-cons s.recipe.channels s.recipe.factor is.arguments.some_factor frame z));
      counted = refl;
      recipe_stays = refl;
    }

pub IsUpsample-taken : (s : UpsampleState) (frame : Samples) → IsUpsample s → upsample_acts.dry s ≡ true → s.core.ended ≡ false → s.core.taken < 2 ^ 56 / s.recipe.factor → IsPending s.recipe.channels (Some frame)
    → IsUpsample (record s { core = after_offering frame 0 s.core; silent = s.recipe.factor - 1 })
IsUpsample-taken s frame is dry running below fits =
    let f : ℕ = s.recipe.factor in
    let some : 0 < f = is.arguments.some_factor in
    let none : length (pending_frames s.core) ≡ 0 = ap (λ p. length (option_to_list p)) (dry-pending s.core.pending s.silent dry) in
    let zero : s.silent ≡ 0 = none-silent s.core.pending s.silent dry in
    let counted = is.counted in
    let more : (s.core.taken + 1) * f ≡ s.core.taken * f + f = rw add-one (omega (arith, suc-mul s.core.taken f)) in
    record {
      core = IsCore-offered _ 0 s.core frame 0 is.core running (omega (arith, below, div-le_self (2 ^ 56) f)) (fits frame refl).0 (fits frame refl).1 (omega arith);
      arguments = is.arguments;
      counted = omega arith;
      fewer = omega arith;
      pending_place = λ held. omega arith;
      over = λ ended. absurd (cc (running, ended));
      limit = omega arith;
    }

-- it gives a silent frame
pub Gave-silent : (s : UpsampleState) → IsUpsample s → s.core.pending ≡ None → 0 < s.silent → Gave upsample_acts s (record s { core = record s.core { given = s.core.given + 1; clips = s.core.clips + 0 }; silent = s.silent - 1 }) (silence s.recipe.channels)
Gave-silent s is e some =
    record {
      was_wet = dry-tail s.core.pending s.silent some;
      gives = record { clips = 0; first = λ z. rw e (silent-first s.silent _ _ some); counted = refl };
      channels = length-replicate _ _;
      due = λ running. let k = is.counted in omega arith;
      maximum = let k = is.counted in omega arith;
      recipe_stays = refl;
    }
