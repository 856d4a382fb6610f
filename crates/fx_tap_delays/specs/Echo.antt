-- The effect `echo` (sox(1), EFFECTS, echo): each frame times gain-in, and earlier ones each times a decay, added and
-- times gain-out. That a decay is not relative to gain-in, rounding and clips are this project's profile.
use Rattle.std.specs.Prelude.{ℕ, ℤ, pos, ◌+◌, ◌*◌, ◌+ℤ◌, ◌*ℤ◌, ◌≤◌, unsigned_abs, Bool, List, [], ◌∷◌, length, map, ◌^◌}
use Rattle.std.specs.List.{All}
use Rattle.fx_fixed.specs.Extents.{largest}
use Rattle.fx_tap_delays.specs.DelayExtents.{Tap, tap_delay}
use Rattle.fx_fixed.specs.Rounding.{rounding}
use Rattle.fx_fixed.specs.declared.gains.TheConstants.{UNIT}
use Rattle.fx_frame_base.specs.Frame.{IsChannelCount, Samples}
use Rattle.fx_frame_base.specs.Stage.{Given, StageKind}
use Rattle.fx_frame_base.specs.Lists.{tabulate}
use Rattle.fx_frame_base.specs.Given.{given_samples}
use Rattle.fx_frame.specs.History.{History, sample_before}
use Rattle.fx_frame.specs.Kinds.{tap_kind}

-- what an `echo` or `echos` does; gains and decays are in trillionths
pub record EchoValue : Type 0 where
  -- the gain of the input
  pub gain_in : ℤ
  -- the gain of the sum of the input and its echoes
  pub gain_out : ℤ
  -- one tap for each echo: its delay in frames and its decay
  pub taps : List Tap

-- the arguments of the stage of `echo` or `echos`
pub record EchoArguments : Type 0 where
  -- how many channels each frame has
  pub channels : ℕ
  -- its gains and its taps
  pub echo : EchoValue

-- the arguments of an `echo`, or of an `echos`, with these channels, gains and taps
abbrev pub echo_with : ℕ → ℤ → ℤ → List Tap → EchoArguments
echo_with channels gain_in gain_out taps = record { channels = channels; echo = record { gain_in = gain_in; gain_out = gain_out; taps = taps } }

-- the limits of the arguments of a stage
pub record IsEcho (a : EchoArguments) : Type 0 where
  -- a frame has 1 to 16 channels
  pub channels : IsChannelCount a.channels
  -- gain-in is at most 1 in magnitude
  pub gain_in : unsigned_abs a.echo.gain_in ≤ UNIT
  -- there are at most 7 echoes
  pub taps_max : length a.echo.taps ≤ 7
  -- each echo comes at least one frame after its frame
  pub delays : All (λ e. 1 ≤ e.0) a.echo.taps
  -- each decay is at most 1 in magnitude
  pub decays : All (λ e. unsigned_abs e.1 ≤ UNIT) a.echo.taps

-- the echoes of channel k, added
abbrev pub sum_of_taps : List Tap → History → ℕ → ℤ
sum_of_taps [] history k = pos 0
sum_of_taps (e ∷ es) history k = (e.1 *ℤ history e.0 k) +ℤ sum_of_taps es history k

-- channel k and its echoes, added
abbrev pub echo_sum : EchoValue → History → ℕ → ℤ
echo_sum e history k = (e.gain_in *ℤ history 0 k) +ℤ sum_of_taps e.taps history k

-- channel k of the frame with its echoes: one exact fraction, rounded once
abbrev pub echoed_sample : EchoValue → History → ℕ → ℤ × Bool
echoed_sample e history k = rounding (e.gain_out *ℤ echo_sum e history k) (10 ^ 12 * 10 ^ 12)

-- the frame with its echoes
abbrev pub echoed_frame : EchoArguments → History → Given
echoed_frame a history = given_samples (tabulate (echoed_sample a.echo history) 0 a.channels)

-- what `echo` gives for a sound
abbrev pub echo : EchoArguments → List Samples → List Given
echo a x = tabulate (λ n. echoed_frame a (sample_before x n)) 0 (length x + largest (map tap_delay a.echo.taps))

-- what it takes and gives, and when each frame is due
abbrev pub echo_kind : EchoArguments → StageKind
echo_kind a = tap_kind a.channels (largest (map tap_delay a.echo.taps))
