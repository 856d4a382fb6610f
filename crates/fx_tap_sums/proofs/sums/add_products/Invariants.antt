use Rattle.std.proofs.Common.{◌≡◌, ◌<◌, ◌≤◌, ◌+◌, ◌^◌, ℕ, pos, ◌+ℤ◌, ◌*ℤ◌, slice_index_or, unsigned_abs}
use Rattle.fx_tap_sums.proofs.sums.add_products.Given as goal

-- the places so far are added, and the others are as they were
abbrev pub invariant-loop-place : goal.invariant-loop-place
invariant-loop-place l = record {
  added : (k : ℕ) → k < l.place → slice_index_or l.sums k (pos 0) ≡ slice_index_or l.fn.sums k (pos 0) +ℤ (l.fn.weight *ℤ slice_index_or l.samples k (pos 0));
  bound : (k : ℕ) → unsigned_abs (slice_index_or l.sums k (pos 0)) ≤ unsigned_abs (slice_index_or l.fn.sums k (pos 0)) + 2 ^ 58;
  seen : (k : ℕ) → k < l.place → unsigned_abs (slice_index_or l.samples k (pos 0)) ≤ 2 ^ 31;
  left : (k : ℕ) → l.place ≤ k → slice_index_or l.sums k (pos 0) ≡ slice_index_or l.fn.sums k (pos 0);
}
