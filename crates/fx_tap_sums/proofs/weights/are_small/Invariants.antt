use Rattle.std.proofs.Common.{◌<◌, ◌≤◌, ℕ, pos, slice_index_or, unsigned_abs}
use Rattle.fx_tap_sums.proofs.weights.are_small.Given as goal

abbrev pub invariant-loop-place : goal.invariant-loop-place
invariant-loop-place l = (k : ℕ) → k < l.place → unsigned_abs (slice_index_or l.weights k (pos 0)) ≤ l.maximum
