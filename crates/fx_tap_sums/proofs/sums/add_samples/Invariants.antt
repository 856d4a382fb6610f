use Rattle.std.proofs.Common.{◌≡◌, ◌<◌, ◌≤◌, ◌+◌, ◌^◌, ℕ, pos, ◌+ℤ◌, slice_index_or, unsigned_abs}
use Rattle.fx_tap_sums.proofs.sums.add_samples.Given as goal

-- the places so far are written
abbrev pub invariant-loop-place : goal.invariant-loop-place
invariant-loop-place l = record {
  added : (k : ℕ) → k < l.place → slice_index_or l.out k (pos 0) ≡ slice_index_or l.samples k (pos 0) +ℤ slice_index_or l.wide k (pos 0);
  bound : (k : ℕ) → k < l.place → unsigned_abs (slice_index_or l.out k (pos 0)) ≤ unsigned_abs (slice_index_or l.wide k (pos 0)) + 2 ^ 31;
}
