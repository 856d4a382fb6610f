-- Frames with their echoes, many of them made at once.
use Rattle.std.proofs.Common.{◌≡◌, ◌+◌, ◌-◌, ◌*◌, ◌<◌, ◌≤◌, ℕ, ℤ, inl, inr, pos, true, false, List, [], ◌++◌, length, map, take, get_or, sym, ap, ◌∙◌, arith, nat_le}
use Rattle.std.proofs.lemmas.Bool.{cases_lt, le-leb, lt-leb}
use Rattle.std.proofs.lemmas.List.{get_or-append-add, get_or_append_left, get_or-take}
use Rattle.fx_fixed.specs.Rounding.{rounding}
use Rattle.fx_frame_base.specs.Frame.{Samples}
use Rattle.fx_frame_base.specs.Holds.{total}
use Rattle.fx_frame_line.specs.Line.{Frames, latest_frames}
use Rattle.fx_frame_base.specs.Lists.{pieces, tabulate}
use Rattle.fx_frame_base.specs.Stage.{Given}
use Rattle.fx_frame_line.proofs.ManyFrames.{latest-held, latest-silence}
use Rattle.fx_frame_base.proofs.Pieces.{get_or-piece}
use Rattle.fx_tap_delays.specs.Echo.{EchoArguments, echo_sum, echoed_frame, echoed_sample}
use Rattle.fx_tap_delays.specs.EchoState.{echo_taps}
use Rattle.fx_tap_sums.specs.Weights.{Weights}
use Rattle.fx_tap_delays.specs.EchoWeights.{weighed, SoundsAsEcho}
use Rattle.fx_frame.specs.Made.{rounded_given}
use Rattle.fx_frame_base.specs.Rounded.{clips_rounded, samples_of}
use Rattle.fx_frame.specs.Tapped.{clips_after, frames_after}
use Rattle.fx_frame.specs.History.{sample_before}
use Rattle.fx_tap_delays.proofs.EchoWeights.{small-sample}
use Rattle.fx_tap_delays.proofs.SumPieces.{rounded-clips, rounded-frame, rounded-frames}

-- ---- samples

-- a sample of an earlier frame
pub late-sample : (l : Frames ℤ) (coming : List Samples) (late n i k : ℕ) → n ≤ late → i < n → k < l.channels → get_or (get_or (latest_frames (pos 0) late l) i []) k (pos 0) ≡ sample_before (l.items ++ coming) (length l.items + i) late k
late-sample l coming late n i k h lt within = elim (cases_lt i (late - length l.items)) [
  | inl q ↦
      let none : nat_le late (length l.items + i) ≡ false = lt-leb late (length l.items + i) (omega arith) in
      rw none (latest-silence l (pos 0) (pos 0) late i k q within)
  | inr q ↦
      let there : nat_le late (length l.items + i) ≡ true = le-leb late (length l.items + i) (omega arith) in
      let inside : length l.items + i - late < length l.items = omega arith in
      rw there (ap (λ (f : Samples). get_or f k (pos 0)) (latest-held l (pos 0) late i q ∙ sym (get_or_append_left l.items coming [] (length l.items + i - late) inside)))
]

-- the same, as it was copied
copied-sample : (l : Frames ℤ) (out : List ℤ) (coming : List Samples) (late n i k : ℕ) → n ≤ late → i < n → k < l.channels → pieces l.channels n out ≡ take n (latest_frames (pos 0) late l)
    → get_or out (i * l.channels + k) (pos 0) ≡ sample_before (l.items ++ coming) (length l.items + i) late k
copied-sample l out coming late n i k h lt within e =
    sym (get_or-piece l.channels n out i k (pos 0) lt within) ∙ ap (λ (ps : List Samples). get_or (get_or ps i []) k (pos 0)) e ∙ ap (λ (f : Samples). get_or f k (pos 0)) (get_or-take n (latest_frames (pos 0) late l) i [] lt)
    ∙ late-sample l coming late n i k h lt within

pub earlier-sample : (l : Frames ℤ) (out : List ℤ) (coming : List Samples) (channels late n i k : ℕ) → l.channels ≡ channels → n ≤ late → i < n → k < channels → pieces l.channels n out ≡ take n (latest_frames (pos 0) late l)
    → get_or out (i * channels + k) (pos 0) ≡ sample_before (l.items ++ coming) (length l.items + i) late k
earlier-sample l out coming channels late n i k same h lt within e =
    let inside : k < l.channels = omega arith in
    ap (λ m. get_or out (i * m + k) (pos 0)) (sym same) ∙ copied-sample l out coming late n i k h lt inside e

-- a sample of a frame that comes
pub coming-sample : (channels n i k : ℕ) (items : List Samples) (frames : List ℤ) → i < n → k < channels → sample_before (items ++ pieces channels n frames) (length items + i) 0 k ≡ get_or frames (i * channels + k) (pos 0)
coming-sample channels n i k items frames lt within =
    let there : nat_le 0 (length items + i) ≡ true = le-leb 0 (length items + i) (omega arith) in
    let at : length items + i - 0 ≡ length items + i = omega arith in
    rw (there, at) (ap (λ (f : Samples). get_or f k (pos 0)) (get_or-append-add items (pieces channels n frames) i []) ∙ get_or-piece channels n frames i k (pos 0) lt within)

-- ---- frames

-- the rounded sums of so many frames are the frames with their echoes
module _ (a : EchoArguments) (w : Weights) (sounds : SoundsAsEcho a.echo w) (items coming : List Samples) (n : ℕ) (sums : List ℤ) (many : length coming ≡ n) (long : length sums ≡ n * a.channels)
    (h : (i k : ℕ) → i < n → k < a.channels → get_or sums (i * a.channels + k) (pos 0) ≡ echo_sum (weighed a.echo w.weights) (sample_before (items ++ coming) (length items + i)) k) where
  each-frame : (i : ℕ) → i < n → rounded_given (λ z. rounding z w.denominator) (get_or (pieces a.channels n sums) i []) ≡ echoed_frame a (sample_before (items ++ coming) (length items + i))
  each-frame i lt =
      rounded-frame (λ z. rounding z w.denominator) a.channels n sums long (echoed_sample a.echo (sample_before (items ++ coming) (length items + i))) i lt (λ k l.
      ap (λ z. rounding z w.denominator) (h i k lt l) ∙ small-sample a w (sample_before (items ++ coming) (length items + i)) k sounds)

  pub piece-frames : (out : List ℤ) → out ≡ samples_of (map (λ z. rounding z w.denominator) sums) → pieces a.channels n out ≡ frames_after echo_taps a items coming
  piece-frames out is =
      rounded-frames (λ z. rounding z w.denominator) a.channels n sums long (λ q. echoed_frame a (sample_before (items ++ coming) q)) (length items) each-frame out is
      ∙ ap (λ m. map (λ (g : Given). g.samples) (tabulate (λ q. echoed_frame a (sample_before (items ++ coming) q)) (length items) m)) (sym many)

  pub piece-clips : (clips : ℕ) → clips ≡ clips_rounded (map (λ z. rounding z w.denominator) sums) → clips ≡ clips_after echo_taps a items coming
  piece-clips clips is =
      rounded-clips (λ z. rounding z w.denominator) a.channels n sums long (λ q. echoed_frame a (sample_before (items ++ coming) q)) (length items) each-frame clips is
      ∙ ap (λ m. total (λ (g : Given). g.clips) (tabulate (λ q. echoed_frame a (sample_before (items ++ coming) q)) (length items) m)) (sym many)
