use Rattle.std.proofs.Common.{◌+◌, ◌*◌, ◌<◌, ◌/◌, ◌-◌, ℕ, length, slice_index_or}
use Rattle.fx_tap_sums.proofs.Leaves.{IsLeafNumber}
use Rattle.fx_tap_sums.proofs.transforms.leaves.write_leaves.Given as goal

abbrev pub invariant-pairs : goal.invariant-pairs
invariant-pairs g l = (i : ℕ) → i < 16 * l.pair → IsLeafNumber g.row.P l.roots (length l.spectrum / 8 * (l.place + 1) - 1) l.spectrum i (slice_index_or l.leaves i 0)
