-- The frames that `downsample` gives, along the list.
use Rattle.std.proofs.Common.{ℕ, suc, ◌+◌, ◌-◌, ◌*◌, ◌<◌, ◌≤◌, ◌≡◌, ◌^◌, List, [], ◌∷◌, length, drop, refl, sym, ap, ◌∙◌, arith, false, true, inl, inr, ◌⊎◌, length-drop, Some, option_to_list, slice_index_or, is_none}
use Rattle.std.specs.Int.{div_ceil}
use Rattle.std.proofs.lemmas.Grind.{div_ceil_times}
use Rattle.fx_frame_base.specs.Frame.{Samples}
use Rattle.fx_frame_base.specs.Stage.{Given, Took}
use Rattle.std.proofs.lemmas.Bool.{cases_lt}
use Rattle.std.proofs.lemmas.List.{get_or-drop}
use Rattle.fx_frame_base.specs.PendingFrame.{IsPending}
use Rattle.fx_cut.specs.Ceil.{by_products}
use Rattle.fx_frame_base.specs.StageCore.{after_offering, pending_frames}
use Rattle.fx_frame_base.proofs.Cores.{IsCore-offered}
use Rattle.fx_frame_base.proofs.Flags.{none-is}
use Rattle.fx_cut.proofs.CoreCounts.{IsCore-took}
use Rattle.fx_frame_base.specs.Lists.{tabulate}
use Rattle.fx_frame_base.specs.Given.{plain}
use Rattle.fx_cut.specs.Downsample.{downsampled}
use Rattle.fx_cut.specs.DownsampleState.{DownsampleState, IsDownsample, downsample_acts}
use Rattle.fx_frame_base.proofs.Tabulate.{tabulate-same}

-- the quotient, by its product
pub ceil_is : (s k q f : ℕ) → 0 < f → s + k ≡ q * f → k < f → div_ceil s f ≡ q
ceil_is s k q f some e h =
    let t = div_ceil_times s f some in
    let a : div_ceil s f ≤ q = by_products (div_ceil s f) q f s (s + k) t.1 (omega arith) (omega arith) in
    let b : q ≤ div_ceil s f = by_products q (div_ceil s f) f s s (omega arith) (omega arith) t.0 in
    omega arith

-- after one frame that is given, so many are left out
ceil-after : (n f : ℕ) → 0 < f → div_ceil (suc n) f ≡ suc (div_ceil (n - (f - 1)) f)
ceil-after n f some = go (cases_lt n (f - 1))
  where
    go : (n < f - 1) ⊎ (f - 1 ≤ n) → div_ceil (suc n) f ≡ suc (div_ceil (n - (f - 1)) f)
    go (inl l) =
        let m : n - (f - 1) ≡ 0 = omega arith in
        let none : div_ceil 0 f ≡ 0 = ceil_is 0 0 0 f some (omega arith) some in
        let one : div_ceil (suc n) f ≡ 1 = ceil_is (suc n) (f - suc n) 1 f some (omega arith) (omega arith) in
        rw (m, none, one) refl
    go (inr l) =
        let q : ℕ = div_ceil (n - (f - 1)) f in
        let t = div_ceil_times (n - (f - 1)) f some in
        let low : n - (f - 1) ≤ q * f = t.0 in
        let high : q * f < n - (f - 1) + f = t.1 in
        ceil_is (suc n) (q * f + f - suc n) (suc q) f some (omega arith) (omega arith)

-- the first frame, and what is given of the frames after those left out
pub downsampled-cons : (f : ℕ) (x : Samples) (z : List Samples) → 0 < f → downsampled f (x ∷ z) ≡ plain x ∷ downsampled f (drop (f - 1) z)
downsampled-cons f x z some =
    let F : ℕ → Given = λ n. plain (slice_index_or (x ∷ z) (n * f) []) in
    let G : ℕ → Given = λ n. plain (slice_index_or (drop (f - 1) z) (n * f) []) in
    let q : ℕ = div_ceil (length (drop (f - 1) z)) f in
    let count : div_ceil (suc (length z)) f ≡ suc q = ceil-after (length z) f some ∙ ap (λ n. suc (div_ceil n f)) (let e : length (drop (f - 1) z) ≡ length z - (f - 1) = length-drop (f - 1) z in sym e) in
    let first : 0 * f ≡ 0 = omega arith in
    let here : F 0 ≡ plain x = ap (λ i. plain (slice_index_or (x ∷ z) i [])) first in
    let more : tabulate F 1 q ≡ tabulate G 0 q = tabulate-same F G 1 0 q (λ k h.
    let e : (1 + k) * f ≡ suc ((f - 1) + (0 + k) * f) = omega arith in
    ap (λ i. plain (slice_index_or (x ∷ z) i [])) e ∙ ap plain (sym (get_or-drop (f - 1) z ((0 + k) * f) []))) in
    ap (tabulate F 0) count ∙ ap (λ g. g ∷ tabulate F 1 q) here ∙ ap (λ l. plain x ∷ l) more

-- a frame that is kept
abbrev pub kept : DownsampleState → Samples → DownsampleState
kept s frame = record s { core = after_offering frame 0 s.core; skip = s.recipe.factor - 1 }

-- a frame that is left out
abbrev pub left : DownsampleState → DownsampleState
left s = record s { core = record s.core { taken = s.core.taken + 1 }; skip = s.skip - 1 }

module _ (s : DownsampleState) (frame : Samples) (is : IsDownsample s) (dry : is_none s.core.pending ≡ true) (running : s.core.ended ≡ false) where
  pub Took-kept : s.skip ≡ 0 → Took downsample_acts s (kept s frame) frame
  Took-kept e =
      record {
        rest = λ z. rw (running, e, none-is s.core.pending dry) (sym (downsampled-cons s.recipe.factor frame z is.arguments.some_factor));
        counted = refl;
        recipe_stays = refl;
      }

  pub IsDownsample-kept : s.skip ≡ 0 → s.core.taken < 2 ^ 56 → IsPending s.recipe.channels (Some frame) → IsDownsample (kept s frame)
  IsDownsample-kept e below fits =
      let f : ℕ = s.recipe.factor in
      let some : 0 < f = is.arguments.some_factor in
      let q : ℕ = div_ceil s.core.taken f in
      let before : s.core.taken + s.skip ≡ q * f = is.skipped in
      let after : (s.core.taken + 1) + (f - 1) ≡ suc q * f = omega arith in
      let next : div_ceil (s.core.taken + 1) f ≡ suc q = ceil_is (s.core.taken + 1) (f - 1) (suc q) f some after (omega arith) in
      let none : length (pending_frames s.core) ≡ 0 = ap (λ h. length (option_to_list h)) (none-is s.core.pending dry) in
      let c = is.counted in
      record {
        core = IsCore-offered _ 0 s.core frame 0 is.core running below (fits frame refl).0 (fits frame refl).1 (omega arith);
        arguments = is.arguments;
        counted = rw next (omega arith);
        skipped = rw next after;
        pending_place = λ held. omega arith;
      }

  pub IsDownsample-left : 0 < s.skip → s.core.taken < 2 ^ 56 → IsDownsample (left s)
  IsDownsample-left some below =
      let f : ℕ = s.recipe.factor in
      let q : ℕ = div_ceil s.core.taken f in
      let high : q * f < s.core.taken + f = (div_ceil_times s.core.taken f is.arguments.some_factor).1 in
      let before : s.core.taken + s.skip ≡ q * f = is.skipped in
      let after : (s.core.taken + 1) + (s.skip - 1) ≡ q * f = omega arith in
      let next : div_ceil (s.core.taken + 1) f ≡ q = ceil_is (s.core.taken + 1) (s.skip - 1) q f is.arguments.some_factor after (omega arith) in
      record {
        core = IsCore-took _ 1 s.core is.core (omega arith);
        arguments = is.arguments;
        counted = rw next is.counted;
        skipped = rw next after;
        pending_place = λ held. absurd (let none : length (pending_frames s.core) ≡ 0 = ap (λ h. length (option_to_list h)) (none-is s.core.pending dry) in omega arith);
      }
