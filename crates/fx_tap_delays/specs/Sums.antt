-- Sums of samples times gains, one for each channel (this project's profile).
use Rattle.std.specs.Prelude.{ℕ, ℤ, pos, ◌≡◌, ◌<◌, ◌*◌, ◌+ℤ◌, ◌*ℤ◌, List, slice_index_or}
use Rattle.fx_fixed.specs.Rounding.{rounding}
use Rattle.fx_fixed.specs.declared.gains.TheConstants.{UNIT}
use Rattle.fx_frame_base.specs.Given.{given_samples}
use Rattle.fx_frame_base.specs.Lists.{tabulate}
use Rattle.fx_frame_base.specs.Stage.{Given}

-- to the sum of each of the first `channels` channels its own amount was added
abbrev pub AddsToEach : ℕ → List ℤ → List ℤ → (ℕ → ℤ) → Type 0
AddsToEach channels old new amount = (k : ℕ) → k < channels → slice_index_or new k (pos 0) ≡ slice_index_or old k (pos 0) +ℤ amount k

-- the frame of the first sums, each times a gain in trillionths, rounded once; sums are in trillionths too
abbrev pub frame_of_sums : ℤ → List ℤ → ℕ → Given
frame_of_sums gain sums channels = given_samples (tabulate (λ k. rounding (gain *ℤ slice_index_or sums k (pos 0)) (UNIT * UNIT)) 0 channels)
