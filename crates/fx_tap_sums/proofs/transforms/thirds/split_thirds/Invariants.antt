use Rattle.std.proofs.Common.{◌≡◌, ◌*◌, ◌<◌, ◌≤◌, ℕ, pos, slice_index_or}
use Rattle.fx_tap_sums.specs.Quarters.{difference_at, with_difference_at}
use Rattle.fx_tap_sums.specs.Residues.{Same, AreRemainders}
use Rattle.fx_tap_sums.proofs.transforms.thirds.split_thirds.Given as goal

abbrev pub invariant-groups : goal.invariant-groups
invariant-groups g l = record {
  first_less : AreRemainders (4 * g.row.P) l.first;
  second_less : AreRemainders (4 * g.row.P) l.second;
  third_less : AreRemainders (2 * g.row.P) l.third;
  first_left : (i : ℕ) → 4 * l.group ≤ i → slice_index_or l.first i 0 ≡ slice_index_or l.initial.first i 0;
  second_left : (i : ℕ) → 4 * l.group ≤ i → slice_index_or l.second i 0 ≡ slice_index_or l.initial.second i 0;
  third_left : (i : ℕ) → 4 * l.group ≤ i → slice_index_or l.third i 0 ≡ slice_index_or l.initial.third i 0;
  first : (i : ℕ) → i < 4 * l.group → Same (pos g.row.P) (pos (slice_index_or l.first i 0)) (with_difference_at l.initial.third (pos l.half) l.initial.first l.initial.third i);
  second : (i : ℕ) → i < 4 * l.group → Same (pos g.row.P) (pos (slice_index_or l.second i 0)) (with_difference_at l.initial.second (pos l.turned_half) l.initial.first l.initial.third i);
  third : (i : ℕ) → i < 4 * l.group → Same (pos g.row.P) (pos (slice_index_or l.third i 0)) (difference_at (pos l.half) l.initial.first l.initial.third i);
}
