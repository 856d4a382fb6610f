use Rattle.std.proofs.Common.{◌≡◌, ◌<◌, ◌≤◌, ◌^◌, ℕ, pos, slice_index_or, unsigned_abs}
use Rattle.fx_tap_sums.specs.Pairs.{joined_halves}
use Rattle.fx_tap_sums.proofs.pairs.split_into.Given as goal

abbrev pub invariant-weights : goal.invariant-weights
invariant-weights l = record {
  high : (k : ℕ) → k < l.place → unsigned_abs (slice_index_or l.high k (pos 0)) ≤ 32767;
  low : (k : ℕ) → k < l.place → unsigned_abs (slice_index_or l.low k (pos 0)) ≤ 8192;
  join : (k : ℕ) → k < l.place → slice_index_or l.weights k (pos 0) ≡ joined_halves (2 ^ l.split) (slice_index_or l.high k (pos 0)) (slice_index_or l.low k (pos 0));
}
