use Rattle.std.proofs.Common.{◌≡◌, ◌+◌, ◌*◌, ◌<◌, ◌≤◌, ℕ, pos, neg_ℤ, ◌+ℤ◌, ◌*ℤ◌, slice_index_or}
use Rattle.fx_tap_sums.specs.Quarters.{spread_at}
use Rattle.fx_tap_sums.specs.Residues.{Same, AreRemainders}
use Rattle.fx_tap_sums.specs.Transform.{root_at}
use Rattle.fx_tap_sums.proofs.transforms.transform.spread_quarters.Given as goal

abbrev pub invariant-groups : goal.invariant-groups
invariant-groups g l = record {
  first_less : (bound : ℕ) → AreRemainders bound l.initial.first → (i : ℕ) → i < 4 * l.group → slice_index_or l.first i 0 < bound + 4 * g.row.P;
  second_less : (bound : ℕ) → AreRemainders bound l.initial.first → (i : ℕ) → i < 4 * l.group → slice_index_or l.second i 0 < bound + 4 * g.row.P;
  third_less : (bound : ℕ) → AreRemainders bound l.initial.first → (i : ℕ) → i < 4 * l.group → slice_index_or l.third i 0 < bound + 4 * g.row.P;
  fourth_less : (bound : ℕ) → AreRemainders bound l.initial.first → (i : ℕ) → i < 4 * l.group → slice_index_or l.fourth i 0 < bound + 4 * g.row.P;
  first_left : (i : ℕ) → 4 * l.group ≤ i → slice_index_or l.first i 0 ≡ slice_index_or l.initial.first i 0;
  second_left : (i : ℕ) → 4 * l.group ≤ i → slice_index_or l.second i 0 ≡ slice_index_or l.initial.second i 0;
  third_left : (i : ℕ) → 4 * l.group ≤ i → slice_index_or l.third i 0 ≡ slice_index_or l.initial.third i 0;
  fourth_left : (i : ℕ) → 4 * l.group ≤ i → slice_index_or l.fourth i 0 ≡ slice_index_or l.initial.fourth i 0;
  first : (i : ℕ) → i < 4 * l.group → Same (pos g.row.P) (pos (slice_index_or l.first i 0)) (spread_at (root_at l.roots l.place) l.initial.first l.initial.third i +ℤ (root_at l.roots (2 * l.place) *ℤ spread_at (root_at l.roots l.place) l.initial.second l.initial.fourth i));
  second : (i : ℕ) → i < 4 * l.group → Same (pos g.row.P) (pos (slice_index_or l.second i 0)) (spread_at (root_at l.roots l.place) l.initial.first l.initial.third i +ℤ (neg_ℤ (root_at l.roots (2 * l.place)) *ℤ spread_at (root_at l.roots l.place) l.initial.second l.initial.fourth i));
  third : (i : ℕ) → i < 4 * l.group → Same (pos g.row.P) (pos (slice_index_or l.third i 0)) (spread_at (neg_ℤ (root_at l.roots l.place)) l.initial.first l.initial.third i +ℤ (root_at l.roots (2 * l.place + 1) *ℤ spread_at (neg_ℤ (root_at l.roots l.place)) l.initial.second l.initial.fourth i));
  fourth : (i : ℕ) → i < 4 * l.group → Same (pos g.row.P) (pos (slice_index_or l.fourth i 0)) (spread_at (neg_ℤ (root_at l.roots l.place)) l.initial.first l.initial.third i +ℤ (neg_ℤ (root_at l.roots (2 * l.place + 1)) *ℤ spread_at (neg_ℤ (root_at l.roots l.place)) l.initial.second l.initial.fourth i));
}
