-- One echo, as late as the line has places: the frame that it needs is the one that leaves the line.
use Rattle.std.proofs.Common.{◌≡◌, ◌+◌, ◌*◌, take, ◌-◌, ◌<◌, ◌≤◌, ℕ, ℤ, pos, ◌+ℤ◌, ◌*ℤ◌, Bool, true, false, cond, List, [], ◌∷◌, ◌++◌, length, map, drop, get_or, refl, sym, ap, ◌∙◌, arith, zero-add, nat_le, nat_lt}
use Rattle.std.specs.Int.{w32}
use borrow.Author.Tests.{ltb-true, ltb-false}
use Rattle.std.proofs.lemmas.Bool.{le-leb, lt-leb}
use Rattle.std.proofs.lemmas.Int.{ints}
use Rattle.std.proofs.lemmas.List.{get_or_append_left, get_or-take}
use Rattle.fx_fixed.specs.Extents.{largest}
use Rattle.fx_tap_delays.specs.DelayExtents.{tap_delay, Tap}
use Rattle.fx_fixed.specs.Rounding.{rounding}
use Rattle.fx_frame_base.specs.Frame.{Samples, silence}
use Rattle.fx_frame_line.specs.Line.{Frames, IsLine}
use Rattle.fx_frame_base.specs.Lists.{pieces, tabulate}
use Rattle.fx_frame_base.specs.Rounded.{clips_rounded, samples_of}
use Rattle.fx_frame_base.proofs.ChannelPlaces.{within-frames}
use Rattle.fx_frame_base.proofs.Pieces.{get_or-piece, length-pieces}
use Rattle.fx_frame_base.proofs.Tabulate.{length-tabulate, tabulate-same}
use Rattle.fx_tap_delays.specs.Echo.{EchoArguments, echo_sum, echoed_sample, sum_of_taps}
use Rattle.fx_tap_delays.specs.EchoState.{echo_taps}
use Rattle.fx_tap_sums.specs.Weights.{Weights}
use Rattle.fx_tap_delays.specs.EchoWeights.{weighed, weighed_taps, SoundsAsEcho}
use Rattle.fx_frame.specs.History.{History, sample_before}
use Rattle.fx_frame.specs.Tapped.{clips_after, frames_after}
use Rattle.fx_frame.proofs.Tables.{map-tabulate}
use Rattle.fx_frame_base.proofs.ListPlaces.{zeros-sample}
use Rattle.fx_tap_delays.proofs.EchoLaws.{sample-now}
use Rattle.fx_tap_sums.proofs.WeightLaws.{second-on}
use Rattle.fx_tap_delays.proofs.EchoPieces.{coming-sample, piece-clips, piece-frames}
use Rattle.fx_tap_delays.proofs.EchoWeights.{small-sample}
use Rattle.fx_tap_delays.proofs.EchosMeaning.{read-table}

-- a sample of the frame that leaves the line, or of silence
late-one : (line : Frames ℤ) (x : Samples) (k : ℕ) (b : Bool) → IsLine w32 line → nat_lt (length line.items) line.capacity ≡ b
    → get_or (cond b (silence (length x)) (get_or (line.items ++ x ∷ []) 0 [])) k (pos 0) ≡ sample_before (line.items ++ x ∷ []) (length line.items) line.capacity k
late-one line x k true is t =
    let bound : length line.items < line.capacity = ltb-true _ _ t in
    let none : nat_le line.capacity (length line.items) ≡ false = lt-leb line.capacity (length line.items) bound in
    rw none (zeros-sample (length x) k)
late-one line x k false is t =
    let full : line.capacity ≤ length line.items = ltb-false _ _ t in
    let there : nat_le line.capacity (length line.items) ≡ true = le-leb line.capacity (length line.items) full in
    let first : length line.items - line.capacity ≡ 0 = omega (arith, is.within) in
    rw (there, first) refl

-- the one echo
late-echo : (es : List Tap) (ws : List ℤ) (history : History) (k reach : ℕ) → length es ≡ 1 → reach ≡ largest (map tap_delay es) → get_or ws 1 (pos 0) *ℤ history reach k ≡ sum_of_taps (weighed_taps es (drop 1 ws)) history k
late-echo [] ws history k reach one far = absurd (omega arith)
late-echo (e ∷ []) ws history k reach one far =
    let late : reach ≡ e.0 = omega (arith, far) in
    let weight : get_or (drop 1 ws) 0 (pos 0) ≡ get_or ws 1 (pos 0) = second-on ws 0 in
    rw (late, weight) (omega (arith, ints))
late-echo (e ∷ d ∷ es) ws history k reach one far = absurd (omega arith)

-- the rounded sums of the frame that came and of the one that leaves the line are the frame with its echo
pub one-echo : (a : EchoArguments) (w : Weights) (line : Frames ℤ) (x early : Samples) (n : ℕ) → SoundsAsEcho a.echo w → length a.echo.taps ≡ 1 → IsLine w32 line → line.capacity ≡ largest (map tap_delay a.echo.taps) → n ≡ a.channels
    → early ≡ cond (nat_lt (length line.items) line.capacity) (silence (length x)) (get_or (line.items ++ x ∷ []) 0 [])
    → tabulate (λ k. rounding ((get_or w.weights 0 (pos 0) *ℤ get_or x k (pos 0)) +ℤ (get_or w.weights 1 (pos 0) *ℤ get_or early k (pos 0))) w.denominator) 0 n ≡ tabulate (echoed_sample a.echo (sample_before (line.items ++ x ∷ []) (length line.items))) 0 a.channels
one-echo a w line x early n sounds one is far wide left =
    let history : History = sample_before (line.items ++ x ∷ []) (length line.items) in
    let ws : List ℤ = w.weights in
    let each : (k : ℕ) → rounding ((get_or ws 0 (pos 0) *ℤ get_or x k (pos 0)) +ℤ (get_or ws 1 (pos 0) *ℤ get_or early k (pos 0))) w.denominator ≡ echoed_sample a.echo history k = λ k.
    let now : get_or x k (pos 0) ≡ history 0 k = sym (sample-now line.items x k) in
    let before : get_or early k (pos 0) ≡ history line.capacity k = ap (λ (f : Samples). get_or f k (pos 0)) left ∙ late-one line x k (nat_lt (length line.items) line.capacity) is refl in
    ap (λ z. rounding ((get_or ws 0 (pos 0) *ℤ z) +ℤ (get_or ws 1 (pos 0) *ℤ get_or early k (pos 0))) w.denominator) now
    ∙ ap (λ z. rounding ((get_or ws 0 (pos 0) *ℤ history 0 k) +ℤ z) w.denominator) (ap (λ z. get_or ws 1 (pos 0) *ℤ z) before ∙ late-echo a.echo.taps ws history k line.capacity one far)
    ∙ small-sample a w history k sounds in
    rw wide (tabulate-same (λ k. rounding ((get_or ws 0 (pos 0) *ℤ get_or x k (pos 0)) +ℤ (get_or ws 1 (pos 0) *ℤ get_or early k (pos 0))) w.denominator) (echoed_sample a.echo history) 0 0 a.channels (λ k l. rw zero-add (each k)))

-- a sample of a frame that leaves a full line
line_output-sample : (line : Frames ℤ) (coming : List Samples) (early : List ℤ) (n i k : ℕ) → length line.items ≡ line.capacity → n ≤ length line.items → i < n → k < line.channels → pieces line.channels n early ≡ take n line.items
    → get_or early (i * line.channels + k) (pos 0) ≡ sample_before (line.items ++ coming) (length line.items + i) line.capacity k
line_output-sample line coming early n i k full bound lt within e =
    let there : nat_le line.capacity (length line.items + i) ≡ true = le-leb line.capacity (length line.items + i) (omega arith) in
    let at : length line.items + i - line.capacity ≡ i = omega arith in
    let inside : i < length line.items = omega arith in
    let frame : get_or (pieces line.channels n early) i [] ≡ get_or (line.items ++ coming) i [] = ap (λ (ps : List Samples). get_or ps i []) e ∙ get_or-take n line.items i [] lt ∙ sym (get_or_append_left line.items coming [] i inside) in
    rw (there, at) (sym (get_or-piece line.channels n early i k (pos 0) lt within) ∙ ap (λ (f : Samples). get_or f k (pos 0)) frame)

-- so many frames of one echo: those that it needs are those that leave a full line
module _ (a : EchoArguments) (w : Weights) (line : Frames ℤ) (came early : List ℤ) (n : ℕ) (sounds : SoundsAsEcho a.echo w) (one : length a.echo.taps ≡ 1) (far : line.capacity ≡ largest (map tap_delay a.echo.taps)) (same : line.channels ≡ a.channels)
    (full : length line.items ≡ line.capacity) (bound : n ≤ length line.items) (line_output : pieces line.channels n early ≡ take n line.items) (long : length early ≡ n * a.channels) where
  -- a sample and the one that leaves the line, each times its weight
  abbrev both : ℕ → ℤ
  both k = (get_or w.weights 0 (pos 0) *ℤ get_or came k (pos 0)) +ℤ (get_or w.weights 1 (pos 0) *ℤ get_or early k (pos 0))

  sums-long : length (tabulate both 0 (n * a.channels)) ≡ n * a.channels
  sums-long = length-tabulate both 0 (n * a.channels)

  rounds : tabulate (λ k. rounding (both k) w.denominator) 0 (length early) ≡ map (λ z. rounding z w.denominator) (tabulate both 0 (n * a.channels))
  rounds = ap (tabulate (λ k. rounding (both k) w.denominator) 0) long ∙ sym (map-tabulate (λ z. rounding z w.denominator) both 0 (n * a.channels))

  sum-is : (i k : ℕ) → i < n → k < a.channels → get_or (tabulate both 0 (n * a.channels)) (i * a.channels + k) (pos 0) ≡ echo_sum (weighed a.echo w.weights) (sample_before (line.items ++ pieces a.channels n came) (length line.items + i)) k
  sum-is i k lt within =
      let at : ℕ = i * a.channels + k in
      let history : History = sample_before (line.items ++ pieces a.channels n came) (length line.items + i) in
      let ws : List ℤ = w.weights in
      let now : get_or came at (pos 0) ≡ history 0 k = sym (coming-sample a.channels n i k line.items came lt within) in
      let left : get_or early at (pos 0) ≡ history line.capacity k = ap (λ m. get_or early (i * m + k) (pos 0)) (sym same) ∙ line_output-sample line (pieces a.channels n came) early n i k full bound lt (omega (arith, within, same)) line_output in
      read-table both 0 (n * a.channels) at (pos 0) (within-frames a.channels k i n within lt)
      ∙ ap both (zero-add at)
      ∙ ap (λ z. (get_or ws 0 (pos 0) *ℤ z) +ℤ (get_or ws 1 (pos 0) *ℤ get_or early at (pos 0))) now
      ∙ ap (λ z. (get_or ws 0 (pos 0) *ℤ history 0 k) +ℤ z) (ap (λ z. get_or ws 1 (pos 0) *ℤ z) left ∙ late-echo a.echo.taps ws history k line.capacity one far)

  pub group-frames : (out : List ℤ) → out ≡ samples_of (tabulate (λ k. rounding (both k) w.denominator) 0 (length early)) → pieces a.channels n out ≡ frames_after echo_taps a line.items (pieces a.channels n came)
  group-frames out is =
      piece-frames a w sounds line.items (pieces a.channels n came) n (tabulate both 0 (n * a.channels)) (length-pieces a.channels n came) sums-long sum-is out (is ∙ ap samples_of rounds)

  pub group-clips : (clips : ℕ) → clips ≡ clips_rounded (tabulate (λ k. rounding (both k) w.denominator) 0 (length early)) → clips ≡ clips_after echo_taps a line.items (pieces a.channels n came)
  group-clips clips is =
      piece-clips a w sounds line.items (pieces a.channels n came) n (tabulate both 0 (n * a.channels)) (length-pieces a.channels n came) sums-long sum-is clips (is ∙ ap clips_rounded rounds)
