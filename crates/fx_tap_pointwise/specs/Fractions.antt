-- Gains in lowest terms.
use Rattle.std.specs.Prelude.{ℕ, ℤ, pos, ◌≡◌, ◌+◌, ◌*◌, ◌^◌, ◌<◌, ◌≤◌, ◌*ℤ◌, Bool}
use Rattle.fx_fixed.specs.Rounding.{rounding}
use Rattle.fx_tap_pointwise.specs.Vol.{scaled_sample}

-- a weight over a denominator
pub record Ratio : Type 0 where
  pub weight : ℤ
  pub denominator : ℕ

-- a sample times a fraction, rounded
abbrev pub fraction_sample : Ratio → ℤ → ℤ × Bool
fraction_sample f sample = rounding (f.weight *ℤ sample) f.denominator

-- it rounds each sample as that gain does
abbrev pub Rounds : ℤ → Ratio → Type 0
Rounds gain f = (sample : ℤ) → fraction_sample f sample ≡ scaled_sample gain sample

-- a factor of 2^62, in parts above and below 2^31, that is slightly above that fraction
pub record IsProperFraction (weight denominator : ℕ) (high low : ℤ) : Type 0 where
  pub below : weight < denominator
  pub bound : denominator < 2 ^ 30
  pub top : ℕ
  pub bottom : ℕ
  pub high_is : high ≡ pos top
  pub low_is : low ≡ pos bottom
  pub bottom_bound : bottom < 2 ^ 31
  pub above : 2 ^ 62 * weight < (top * 2 ^ 31 + bottom) * denominator
  pub near : (top * 2 ^ 31 + bottom) * denominator ≤ 2 ^ 62 * weight + denominator
