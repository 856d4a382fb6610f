use Rattle.std.proofs.Common.{◌+◌, ◌≡◌, ◌*◌, ◌<◌, ◌≤◌, ℕ, pos, ◌+ℤ◌, ◌*ℤ◌, slice_index_or, ◌-ℤ◌}
use Rattle.fx_tap_sums.specs.Quarters.{difference_at, sum_at}
use Rattle.fx_tap_sums.specs.Residues.{Same, AreRemainders}
use Rattle.fx_tap_sums.specs.Transform.{root_at}
use Rattle.fx_tap_sums.proofs.transforms.transform.gather_quarters.Given as goal

abbrev pub invariant-groups : goal.invariant-groups
invariant-groups g l = record {
  first_less : AreRemainders (4 * g.row.P) l.first;
  second_less : AreRemainders (4 * g.row.P) l.second;
  third_less : AreRemainders (4 * g.row.P) l.third;
  fourth_less : AreRemainders (4 * g.row.P) l.fourth;
  first_left : (i : ℕ) → 4 * l.group ≤ i → slice_index_or l.first i 0 ≡ slice_index_or l.initial.first i 0;
  second_left : (i : ℕ) → 4 * l.group ≤ i → slice_index_or l.second i 0 ≡ slice_index_or l.initial.second i 0;
  third_left : (i : ℕ) → 4 * l.group ≤ i → slice_index_or l.third i 0 ≡ slice_index_or l.initial.third i 0;
  fourth_left : (i : ℕ) → 4 * l.group ≤ i → slice_index_or l.fourth i 0 ≡ slice_index_or l.initial.fourth i 0;
  first : (i : ℕ) → i < 4 * l.group → Same (pos g.row.P) (pos (slice_index_or l.first i 0)) (sum_at l.initial.first l.initial.second i +ℤ sum_at l.initial.third l.initial.fourth i);
  second : (i : ℕ) → i < 4 * l.group → Same (pos g.row.P) (pos (slice_index_or l.second i 0)) (difference_at (root_at l.inverses (2 * l.place)) l.initial.first l.initial.second i +ℤ difference_at (root_at l.inverses (2 * l.place + 1)) l.initial.third l.initial.fourth i);
  third : (i : ℕ) → i < 4 * l.group → Same (pos g.row.P) (pos (slice_index_or l.third i 0)) (root_at l.inverses l.place *ℤ (sum_at l.initial.first l.initial.second i -ℤ sum_at l.initial.third l.initial.fourth i));
  fourth : (i : ℕ) → i < 4 * l.group → Same (pos g.row.P) (pos (slice_index_or l.fourth i 0)) (root_at l.inverses l.place *ℤ (difference_at (root_at l.inverses (2 * l.place)) l.initial.first l.initial.second i -ℤ difference_at (root_at l.inverses (2 * l.place + 1)) l.initial.third l.initial.fourth i));
}
