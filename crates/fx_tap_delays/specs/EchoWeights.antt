-- The gains of an `echo` or `echos` in lowest terms.
use Rattle.std.specs.Prelude.{ℕ, ℤ, Bool, pos, ◌≡◌, ◌<◌, ◌+◌, ◌*◌, ◌^◌, ◌+ℤ◌, ◌*ℤ◌, List, [], ◌∷◌, ◌++◌, drop, length, slice_index_or}
use Rattle.fx_fixed.specs.Rounding.{rounding}
use Rattle.fx_frame_base.specs.Frame.{Samples}
use Rattle.fx_frame_base.specs.Given.{given_samples}
use Rattle.fx_frame_base.specs.Lists.{pieces, tabulate}
use Rattle.fx_frame_base.specs.Stage.{Given}
use Rattle.fx_frame_line.specs.Line.{Frames}
use Rattle.fx_frame.specs.History.{sample_before}
use Rattle.fx_tap_delays.specs.Echo.{EchoArguments, EchoValue, echo_sum}
use Rattle.fx_tap_delays.specs.DelayExtents.{Tap}
use Rattle.fx_tap_sums.specs.Weights.{Weights, AreSmall, SoundsAs}

-- taps with those weights in place of the decays
abbrev pub weighed_taps : List Tap → List ℤ → List Tap
weighed_taps [] weights = []
weighed_taps (e ∷ es) weights = (e.0, slice_index_or weights 0 (pos 0)) ∷ weighed_taps es (drop 1 weights)

-- an `echo` with those weights in place of gain-in and the decays
abbrev pub weighed : EchoValue → List ℤ → EchoValue
weighed e weights = record e { gain_in = slice_index_or weights 0 (pos 0); taps = weighed_taps e.taps (drop 1 weights) }

-- weights that sound as the gains of an `echo`
abbrev pub SoundsAsEcho : EchoValue → Weights → Type 0
SoundsAsEcho e = SoundsAs e.gain_in e.gain_out e.taps

-- weights that an `echos` may take in place of its gains: the output of a line may be as large as eight samples
pub record Suits (a : EchoArguments) (w : Weights) : Type 0 where
  pub sounds : SoundsAsEcho a.echo w
  pub small : AreSmall (2 ^ 24) w.weights

-- a fact of all arguments with so many channels and a tap for each line, which these weights suit
abbrev pub ForAllSuited : Weights → ℕ → List (Frames ℤ) → (EchoArguments → Type 0) → Type 0
ForAllSuited w channels lines P = (a : EchoArguments) → Suits a w → a.channels ≡ channels → length a.echo.taps ≡ length lines → P a

-- channel k of a frame with one echo: its sample and the earlier one, each times its weight, added and rounded once
abbrev pub one_echo_sample : Weights → Samples → Samples → ℕ → ℤ × Bool
one_echo_sample w came earlier k = rounding ((slice_index_or w.weights 0 (pos 0) *ℤ slice_index_or came k (pos 0)) +ℤ (slice_index_or w.weights 1 (pos 0) *ℤ slice_index_or earlier k (pos 0))) w.denominator

-- the frame with one echo
abbrev pub one_echo_frame : Weights → Samples → Samples → Given
one_echo_frame w came earlier = given_samples (tabulate (one_echo_sample w came earlier) 0 (length earlier))

-- the sums of a frame and its echoes, each times its weight, for each channel of `count` frames, which follow those of the line
abbrev pub AreEchoSums : EchoArguments → List ℤ → List Samples → ℕ → List ℤ → List ℤ → Type 0
AreEchoSums a weights items count frames sums =
    (i k : ℕ) → i < count → k < a.channels → slice_index_or sums (i * a.channels + k) (pos 0) ≡ echo_sum (weighed a.echo weights) (sample_before (items ++ pieces a.channels count frames) (length items + i)) k
