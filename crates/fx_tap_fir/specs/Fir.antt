-- The effect `fir` (sox(1), EFFECTS, fir): each sample is a sum of the samples around it, times the coefficients. That the
-- sum is centred, so that the output has no delay, and rounding and clips are this project's profile.
use Rattle.std.specs.Prelude.{ℕ, ℤ, ◌+◌, ◌-◌, ◌/◌, Bool, None, List, [], ◌∷◌, ◌++◌, length, ◌^◌}
use Rattle.fx_fixed.specs.Rounding.{rounding}
use Rattle.fx_frame_base.specs.Frame.{Samples}
use Rattle.fx_frame_base.specs.Stage.{Given, StageKind, max_taken}
use Rattle.fx_frame.specs.History.{sample_before}
use Rattle.fx_frame_base.specs.Lists.{tabulate}
use Rattle.fx_tap_sums.specs.Products.{sum_of_products}
use Rattle.fx_frame_base.specs.Given.{given_samples}

-- what a `Fir` is made with: its channels, and its coefficients in trillionths
pub record FirArguments : Type 0 where
  pub channels : ℕ
  pub coefficients : List ℤ

-- the arguments of a `fir` with these channels and coefficients
abbrev pub fir_with : ℕ → List ℤ → FirArguments
fir_with channels coefficients = record { channels = channels; coefficients = coefficients }

-- how many later samples are in the sum of a sample
abbrev pub centre : ℕ → ℕ
centre count = (count - 1) / 2

-- `count` samples of a channel from frame m on backwards; silence before the first frame and after the last
abbrev pub samples_back : List Samples → ℕ → ℕ → ℕ → List ℤ
samples_back x m channel count = tabulate (λ k. sample_before x m k channel) 0 count

-- the sum of h_k * x[m - k] of a channel, rounded
abbrev pub filtered_sample : List ℤ → List Samples → ℕ → ℕ → ℤ × Bool
filtered_sample h x m channel = rounding (sum_of_products (samples_back x m channel (length h)) h) (10 ^ 12)

-- those of all channels
abbrev pub filtered_frame : FirArguments → List Samples → ℕ → Given
filtered_frame r x m = given_samples (tabulate (filtered_sample r.coefficients x m) 0 r.channels)

-- that of a frame which comes after these, made of it and of those before it
abbrev pub filtered_next : FirArguments → List Samples → Samples → Given
filtered_next r items frame = filtered_frame r (items ++ frame ∷ []) (length items)

-- frame n of the filtered list: the sum of h_k * x[n + centre - k]
abbrev pub filtered_at : FirArguments → List Samples → ℕ → Given
filtered_at r x n = filtered_frame r x (n + centre (length r.coefficients))

-- what `fir` gives for a sound: as many frames as came
abbrev pub filtered : FirArguments → List Samples → List Given
filtered r x = tabulate (filtered_at r x) 0 (length x)

-- what it takes and gives, and when each frame is due
abbrev pub fir_kind : FirArguments → StageKind
fir_kind r = record { inputs = r.channels; outputs = r.channels; line = length r.coefficients - 1; limit = max_taken; due = λ n. n - centre (length r.coefficients); maximum = λ n. n; enough = None }
