-- Samples of 32 bits whose lower 8 bits are zero.
use Rattle.std.specs.Prelude.{ℕ, ◌≡◌, ◌<◌, ◌≤◌, ◌^◌, List, ℤ, pos, ◌*ℤ◌, length, slice_index_or, unsigned_abs}

-- samples that are 256 times others, and these, which have at most 24 bits
pub record AreUpper (samples upper : List ℤ) : Type 0 where
  pub long : length upper ≡ length samples
  pub small : (k : ℕ) → unsigned_abs (slice_index_or upper k (pos 0)) ≤ 2 ^ 23
  pub are : (k : ℕ) → k < length upper → slice_index_or samples k (pos 0) ≡ pos 256 *ℤ slice_index_or upper k (pos 0)
