use Rattle.std.proofs.Common.{◌≡◌, ◌<◌, ◌+◌, ◌*◌, ◌/◌, ◌%◌, ℕ, pos, length, slice_index_or}
use Rattle.fx_tap_sums.proofs.pairs.table_of.Given as goal

abbrev pub invariant-places : goal.invariant-places
invariant-places l = record {
  long : length l.table.items ≡ l.place;
  each : (k : ℕ) → k < l.place → slice_index_or l.table.items k (pos 0) ≡ slice_index_or l.weights (2 * (k / 8) + k % 2) (pos 0);
}
