-- What `upsample` and `downsample` are made with (this project's profile).
use Rattle.std.specs.Prelude.{ℕ, ◌≤◌}
use Rattle.fx_cut.specs.declared.factor.TheConstants.{MAX_FACTOR}

-- the channels of each frame, and the factor
pub record FactorArguments : Type 0 where
  pub channels : ℕ
  pub factor : ℕ

-- those with so many channels and this factor
abbrev pub factor_with : ℕ → ℕ → FactorArguments
factor_with channels factor = record { channels = channels; factor = factor }

-- 1 to 16 channels, and a factor from 1 on
pub record IsFactor (r : FactorArguments) : Type 0 where
  pub some_channels : 1 ≤ r.channels
  pub channels_max : r.channels ≤ 16
  pub some_factor : 1 ≤ r.factor
  pub factor_max : r.factor ≤ MAX_FACTOR
