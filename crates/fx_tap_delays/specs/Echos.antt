-- The effect `echos` (sox(1), EFFECTS, echos: echoes in series): each frame times gain-in, and what each of several lines in
-- series outputs, times a decay, added and times gain-out. That the next line takes the frame and what the line before it
-- outputs, not decayed, that a decay is not relative to gain-in, rounding and clips are this project's profile.
use Rattle.std.specs.Prelude.{ℕ, ℤ, pos, zero, suc, ◌+◌, ◌*◌, ◌+ℤ◌, ◌*ℤ◌, List, length, map, drop, take, ◌^◌}
use Rattle.fx_tap_delays.specs.DelayExtents.{Tap, sum_of_delays}
use Rattle.fx_fixed.specs.Rounding.{rounding}
use Rattle.fx_frame_base.specs.Frame.{Samples}
use Rattle.fx_frame_base.specs.Stage.{Given, StageKind}
use Rattle.fx_tap_delays.specs.Echo.{EchoArguments, EchoValue}
use Rattle.fx_frame_base.specs.Lists.{tabulate}
use Rattle.fx_tap_sums.specs.Products.{sum_of_products}
use Rattle.fx_frame_base.specs.Given.{given_samples}
use Rattle.fx_frame.specs.History.{History, sample_before}
use Rattle.fx_frame.specs.Kinds.{tap_kind}

-- f at the numbers below n, added
abbrev pub sum_below : (ℕ → ℤ) → ℕ → ℤ
sum_below f zero = pos 0
sum_below f (suc n) = sum_below f n +ℤ f n

-- the decays of these taps
abbrev pub decays : List Tap → List ℤ
decays taps = map (λ e. e.1) taps

-- the delays of the taps from place i on and before place j, added
abbrev pub way : List Tap → ℕ → ℕ → ℕ
way taps i j = sum_of_delays (drop i (take j taps))

-- the output of the first j lines: the sum over i < j of x[n - (d_i + .. + d_(j-1))]
abbrev pub passed : List Tap → History → ℕ → ℕ → ℤ
passed taps history j k = sum_below (λ i. history (way taps i j) k) j

-- channel k times gain-in and what comes out of each line times its decay, added
abbrev pub echos_sum : EchoValue → History → ℕ → ℤ
echos_sum e history k = (e.gain_in *ℤ history 0 k) +ℤ sum_of_products (decays e.taps) (tabulate (λ j. passed e.taps history (suc j) k) 0 (length e.taps))

-- that sum times gain-out: one exact fraction, rounded once
abbrev pub echos_frame : EchoArguments → History → Given
echos_frame a history = given_samples (tabulate (λ k. rounding (a.echo.gain_out *ℤ echos_sum a.echo history k) (10 ^ 12 * 10 ^ 12)) 0 a.channels)

-- what `echos` gives for a sound
abbrev pub echos : EchoArguments → List Samples → List Given
echos a x = tabulate (λ n. echos_frame a (sample_before x n)) 0 (length x + sum_of_delays a.echo.taps)

-- what it takes and gives, and when each frame is due
abbrev pub echos_kind : EchoArguments → StageKind
echos_kind a = tap_kind a.channels (sum_of_delays a.echo.taps)
