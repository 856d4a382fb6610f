-- What an `echos` gives for a piece of frames.
use Rattle.std.proofs.Common.{◌≡◌, ◌+◌, ◌*◌, ◌<◌, ◌+ℤ◌, ◌*ℤ◌, ℕ, ℤ, suc, pos, List, [], ◌∷◌, length, map, drop, take, replicate, get_or, refl, sym, ap, ◌∙◌, zero-add}
use Rattle.std.proofs.lemmas.List.{length-map}
use Rattle.fx_fixed.specs.Rounding.{rounding}
use Rattle.fx_fixed.specs.declared.gains.TheConstants.{UNIT}
use Rattle.fx_frame_base.specs.Frame.{Samples}
use Rattle.fx_frame_base.specs.Holds.{total}
use Rattle.fx_frame_line.specs.Line.{Frames, channel_of, pushed_out}
use Rattle.fx_frame_base.specs.Lists.{pieces, tabulate}
use Rattle.fx_frame_base.specs.Stage.{Given}
use Rattle.fx_frame_base.proofs.Pieces.{get_or-piece, length-pieces}
use Rattle.fx_tap_delays.specs.Echo.{EchoArguments}
use Rattle.fx_tap_delays.specs.EchoWeights.{Suits}
use Rattle.fx_tap_sums.specs.Weights.{Weights}
use Rattle.fx_tap_delays.specs.Echos.{decays}
use Rattle.fx_tap_delays.specs.EchosState.{fed, frame_of_lines, line_outputs_at, line_outputs, lines_after, or_silence, series_lines_after, through_lines}
use Rattle.fx_frame.specs.Made.{rounded_given}
use Rattle.fx_tap_sums.specs.Products.{sum_of_products}
use Rattle.fx_frame_base.specs.Rounded.{clips_rounded, samples_of}
use Rattle.fx_tap_delays.proofs.EchosLaws.{length-after}
use Rattle.fx_tap_delays.proofs.EchosPieces.{through-table}
use Rattle.fx_tap_delays.proofs.SumPieces.{rounded-clips, rounded-frame, rounded-frames}

length-line_output : (c : ℕ) (ls : List (Frames ℤ)) (x b : Samples) → length (line_outputs c ls x b) ≡ length ls
length-line_output c [] x b = refl
length-line_output c (l ∷ ls) x b = ap suc (length-line_output c ls x (or_silence c (pushed_out l (fed c x b))))

pub length-series_lines : (c : ℕ) (ls : List (Frames ℤ)) (xs : List Samples) → length (series_lines_after c ls xs) ≡ length ls
length-series_lines c ls [] = refl
length-series_lines c ls (x ∷ xs) = length-series_lines c (lines_after c ls x (replicate c (pos 0))) xs ∙ length-after c ls x (replicate c (pos 0))

module _ (a : EchoArguments) (w : Weights) (suits : Suits a w) (ls : List (Frames ℤ)) (frames : List ℤ) (n : ℕ) (sums : List ℤ) (taps : length a.echo.taps ≡ length ls) (long : length sums ≡ n * a.channels)
    (h : (i k : ℕ) → i < n → k < a.channels → get_or sums (i * a.channels + k) (pos 0) ≡ (get_or w.weights 0 (pos 0) *ℤ get_or frames (i * a.channels + k) (pos 0)) +ℤ sum_of_products (drop 1 w.weights) (channel_of (line_outputs_at a.channels ls (pieces a.channels n frames) i) k (pos 0))) where
  each-frame : (i : ℕ) → i < n → rounded_given (λ z. rounding z w.denominator) (get_or (pieces a.channels n sums) i []) ≡ frame_of_lines a (get_or (pieces a.channels n frames) (0 + i) []) (line_outputs_at a.channels ls (pieces a.channels n frames) (0 + i))
  each-frame i lt =
      let xs : List Samples = pieces a.channels n frames in
      let line_output : List Samples = line_outputs_at a.channels ls (pieces a.channels n frames) i in
      let at : 0 + i ≡ i = zero-add i in
      let many : length line_output ≡ length a.echo.taps = length-line_output a.channels (series_lines_after a.channels ls (take i xs)) (get_or xs i []) (replicate a.channels (pos 0)) ∙ length-series_lines a.channels ls (take i xs) ∙ sym taps in
      rw at (rounded-frame (λ z. rounding z w.denominator) a.channels n sums long (λ k. rounding (a.echo.gain_out *ℤ ((a.echo.gain_in *ℤ get_or (get_or xs i []) k (pos 0)) +ℤ sum_of_products (decays a.echo.taps) (channel_of line_output k (pos 0)))) (UNIT * UNIT)) i lt (λ k l.
      ap (λ z. rounding z w.denominator) (h i k lt l ∙ ap (λ x. (get_or w.weights 0 (pos 0) *ℤ x) +ℤ sum_of_products (drop 1 w.weights) (channel_of line_output k (pos 0))) (sym (get_or-piece a.channels n frames i k (pos 0) lt l)))
      ∙ suits.sounds (get_or (get_or xs i []) k (pos 0)) (channel_of line_output k (pos 0)) (length-map line_output (λ f. get_or f k (pos 0)) ∙ many)))

  table : tabulate (λ i. frame_of_lines a (get_or (pieces a.channels n frames) i []) (line_outputs_at a.channels ls (pieces a.channels n frames) i)) 0 n ≡ through_lines a ls (pieces a.channels n frames)
  table =
      ap (tabulate (λ i. frame_of_lines a (get_or (pieces a.channels n frames) i []) (line_outputs_at a.channels ls (pieces a.channels n frames) i)) 0) (sym (length-pieces a.channels n frames)) ∙ sym (through-table a ls (pieces a.channels n frames))

  pub given-frames : (out : List ℤ) → out ≡ samples_of (map (λ z. rounding z w.denominator) sums) → pieces a.channels n out ≡ map (λ (g : Given). g.samples) (through_lines a ls (pieces a.channels n frames))
  given-frames out is =
      rounded-frames (λ z. rounding z w.denominator) a.channels n sums long (λ i. frame_of_lines a (get_or (pieces a.channels n frames) i []) (line_outputs_at a.channels ls (pieces a.channels n frames) i)) 0 each-frame out is
      ∙ ap (map (λ (g : Given). g.samples)) table

  pub given-clips : (clips : ℕ) → clips ≡ clips_rounded (map (λ z. rounding z w.denominator) sums) → clips ≡ total (λ (g : Given). g.clips) (through_lines a ls (pieces a.channels n frames))
  given-clips clips is =
      rounded-clips (λ z. rounding z w.denominator) a.channels n sums long (λ i. frame_of_lines a (get_or (pieces a.channels n frames) i []) (line_outputs_at a.channels ls (pieces a.channels n frames) i)) 0 each-frame clips is
      ∙ ap (total (λ (g : Given). g.clips)) table
