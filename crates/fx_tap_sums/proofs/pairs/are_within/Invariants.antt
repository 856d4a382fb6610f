use Rattle.std.proofs.Common.{◌≡◌, ◌≤◌, ◌<◌, ◌+◌, ℕ, pos, take, slice_index_or, unsigned_abs, sum_by}
use Rattle.fx_tap_sums.proofs.pairs.are_within.Given as goal

abbrev pub invariant-weights : goal.invariant-weights
invariant-weights l = record {
  each : (k : ℕ) → k < l.place → unsigned_abs (slice_index_or l.weights k (pos 0)) ≤ l.maximum;
  small : l.left + sum_by unsigned_abs (take l.place l.weights) ≡ l.whole;
}
