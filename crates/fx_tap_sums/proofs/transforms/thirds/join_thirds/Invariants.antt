use Rattle.std.proofs.Common.{◌≡◌, ◌*◌, ◌<◌, ◌≤◌, ℕ, pos, neg_ℤ, slice_index_or}
use Rattle.fx_tap_sums.specs.Quarters.{minus_at, spread_at}
use Rattle.fx_tap_sums.specs.Residues.{Same, AreRemainders}
use Rattle.fx_tap_sums.proofs.transforms.thirds.join_thirds.Given as goal

abbrev pub invariant-groups : goal.invariant-groups
invariant-groups g l = record {
  first_less : AreRemainders (4 * g.row.P) l.first;
  second_less : AreRemainders (4 * g.row.P) l.second;
  first_left : (i : ℕ) → 4 * l.group ≤ i → slice_index_or l.first i 0 ≡ slice_index_or l.initial.first i 0;
  second_left : (i : ℕ) → 4 * l.group ≤ i → slice_index_or l.second i 0 ≡ slice_index_or l.initial.second i 0;
  first : (i : ℕ) → i < 4 * l.group → Same (pos g.row.P) (pos (slice_index_or l.first i 0)) (spread_at (neg_ℤ (pos l.root)) l.initial.first l.third i);
  second : (i : ℕ) → i < 4 * l.group → Same (pos g.row.P) (pos (slice_index_or l.second i 0)) (minus_at l.initial.second l.third i);
}
