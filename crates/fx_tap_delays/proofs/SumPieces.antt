-- Rounded sums of many frames at once.
use Rattle.std.proofs.Common.{◌≡◌, ◌+◌, ◌*◌, ◌<◌, ℕ, ℤ, pos, Bool, List, [], ◌∷◌, length, map, take, get_or, refl, sym, ap, ◌∙◌, arith, zero-add}
use Rattle.std.proofs.lemmas.List.{take_all}
use Rattle.std.proofs.lemmas.Simd.{map-map}
use Rattle.fx_frame_base.specs.Frame.{Samples}
use Rattle.fx_frame_base.specs.Holds.{total}
use Rattle.fx_frame_base.specs.Lists.{pieces, tabulate}
use Rattle.fx_frame_base.specs.Stage.{Given}
use Rattle.fx_frame_base.proofs.Pieces.{get_or-piece, length-pieces}
use Rattle.fx_frame.specs.Made.{clips_in, rounded_given}
use Rattle.fx_frame_base.specs.Rounded.{clips_rounded, samples_of}
use Rattle.fx_frame_base.specs.Given.{given_samples}
use Rattle.fx_frame.proofs.SamplePieces.{clips-samples, pieces-samples, pieces-sides}
use Rattle.fx_frame.proofs.Tables.{map-table}

-- each sum over a denominator is rounded, and the frames are those
module _ (f : ℤ → ℤ × Bool) (size n : ℕ) (sums : List ℤ) (long : length sums ≡ n * size) where
  -- one frame, sample by sample
  pub rounded-frame : (h : ℕ → ℤ × Bool) (i : ℕ) → i < n → ((k : ℕ) → k < size → f (get_or sums (i * size + k) (pos 0)) ≡ h k) → rounded_given f (get_or (pieces size n sums) i []) ≡ given_samples (tabulate h 0 size)
  rounded-frame h i lt each =
      let piece : Samples = get_or (pieces size n sums) i [] in
      let count : i < length (pieces size n sums) = omega (arith, lt, length-pieces size n sums) in
      let side : length (get_or (pieces size n sums) i []) ≡ size = pieces-sides size n sums (omega arith) i [] count in
      ap given_samples (map-table f h (pos 0) piece 0 (λ k l.
      let e : 0 + k ≡ k = zero-add k in
      let within : k < size = omega (arith, l, side) in
      rw e (ap f (get_or-piece size n sums i k (pos 0) lt within) ∙ each k within))
      ∙ ap (tabulate h 0) side)

  module _ (given : ℕ → Given) (from : ℕ) (each : (i : ℕ) → i < n → rounded_given f (get_or (pieces size n sums) i []) ≡ given (from + i)) where
    made : map (rounded_given f) (pieces size n sums) ≡ tabulate given from n
    made =
        let count : length (pieces size n sums) ≡ n = length-pieces size n sums in
        map-table (rounded_given f) given [] (pieces size n sums) from (λ i l. each i (omega (arith, l, count))) ∙ ap (tabulate given from) count

    pub rounded-frames : (out : List ℤ) → out ≡ samples_of (map f sums) → pieces size n out ≡ map (λ (g : Given). g.samples) (tabulate given from n)
    rounded-frames out is =
        ap (pieces size n) is ∙ pieces-samples f size n sums ∙ sym (map-map (λ (g : Given). g.samples) (rounded_given f) (pieces size n sums)) ∙ ap (map (λ (g : Given). g.samples)) made

    pub rounded-clips : (clips : ℕ) → clips ≡ clips_rounded (map f sums) → clips ≡ total (λ (g : Given). g.clips) (tabulate given from n)
    rounded-clips clips is =
        let whole : take (n * size) sums ≡ sums = take_all (n * size) sums (omega arith) in
        is ∙ ap (λ l. clips_rounded (map f l)) (sym whole) ∙ clips-samples f size n sums ∙ totals (pieces size n sums) ∙ ap (total (λ (g : Given). g.clips)) made
      where
        totals : (ps : List Samples) → clips_in (rounded_given f) ps ≡ total (λ (g : Given). g.clips) (map (rounded_given f) ps)
        totals [] = refl
        totals (p ∷ ps) = ap (λ m. clips_rounded (map f p) + m) (totals ps)
