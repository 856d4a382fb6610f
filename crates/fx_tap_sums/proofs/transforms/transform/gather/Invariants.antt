use Rattle.std.proofs.Common.{◌≡◌, ◌*◌, ◌<◌, ◌≤◌, ℕ, pos, ◌+ℤ◌, ◌*ℤ◌, slice_index_or, ◌-ℤ◌}
use Rattle.fx_tap_sums.specs.Residues.{Same, AreRemainders}
use Rattle.fx_tap_sums.proofs.transforms.transform.gather.Given as goal

abbrev pub invariant-groups : goal.invariant-groups
invariant-groups g l = record {
  low : AreRemainders (4 * g.row.P) l.low;
  high : AreRemainders (4 * g.row.P) l.high;
  low_left : (i : ℕ) → 4 * l.group ≤ i → slice_index_or l.low i 0 ≡ slice_index_or l.initial.low i 0;
  high_left : (i : ℕ) → 4 * l.group ≤ i → slice_index_or l.high i 0 ≡ slice_index_or l.initial.high i 0;
  plus : (i : ℕ) → i < 4 * l.group → Same (pos g.row.P) (pos (slice_index_or l.low i 0)) (pos (slice_index_or l.initial.low i 0) +ℤ pos (slice_index_or l.initial.high i 0));
  minus : (i : ℕ) → i < 4 * l.group → Same (pos g.row.P) (pos (slice_index_or l.high i 0)) (pos l.inverse *ℤ (pos (slice_index_or l.initial.low i 0) -ℤ pos (slice_index_or l.initial.high i 0)));
}
