-- Products over a denominator, reduced by a common divisor.
use Rattle.std.specs.Prelude.{ℕ, ℤ, List, pos, ◌≡◌, ◌*◌, ◌*ℤ◌, ◌^◌, ◌<◌, ◌≤◌, length, slice_index_or, sum_by, unsigned_abs}

-- those weights over q are the gain times the coefficients over the denominator, and are small
pub record IsReduced (gain : ℤ) (denominator : ℕ) (coefficients weights : List ℤ) (q : ℕ) : Type 0 where
  pub by : ℕ
  pub positive : 0 < by
  pub below : by * q ≡ denominator
  pub above : (k : ℕ) → k < length coefficients → pos by *ℤ slice_index_or weights k (pos 0) ≡ gain *ℤ slice_index_or coefficients k (pos 0)
  pub small : sum_by unsigned_abs weights ≤ 2 ^ 30
