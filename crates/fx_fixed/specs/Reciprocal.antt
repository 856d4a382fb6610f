-- A denominator prepared as a factor and a shift.
use Rattle.std.specs.Prelude.{ℕ, ℤ, pos, ◌≡◌, ◌+◌, ◌*◌, ◌^◌, ◌<◌, ◌≤◌}

-- the factor is 2^(64 + shift) over the multiplied denominator, rounded up to an integer above it, and the half is half that power
pub record IsPreparedDenominator (value : ℕ) (multiplier factor half : ℤ) (shift : ℕ) : Type 0 where
  pub times : ℕ
  pub over : ℕ
  pub multiplier_is : multiplier ≡ pos times
  pub factor_is : factor ≡ pos over
  pub half_is : half ≡ pos (2 ^ 63 * 2 ^ shift)
  pub positive : 0 < value
  pub small : times ≤ 3
  pub shift_bound : shift ≤ 61
  pub bound : times * value < 4 * 2 ^ shift
  pub factor_bound : over < 2 ^ 63
  pub above : 2 ^ 64 * 2 ^ shift + 1 ≤ over * (times * value)
  pub near : over * (times * value) ≤ 2 ^ 64 * 2 ^ shift + times * value
