-- The table of the leaves of a transform: what each leaf, four numbers of a transform, is multiplied by.
use Rattle.std.specs.Prelude.{ℕ, ◌+◌, ◌-◌, ◌*◌, ◌<◌, ◌≡◌, List, pos, neg_ℤ, ◌*ℤ◌, length, slice_index_or}
use Rattle.fx_tap_sums.specs.Residues.{Same}
use Rattle.fx_tap_sums.specs.Transform.{root_at}

-- a leaf is four numbers of a spectrum. The table has eight numbers for each leaf: its four, and after them the same times s, since
-- the leaf's product is modulo x^4 - s. Leaves stand in pairs with one root: s is the root for the second of a pair, and its
-- negative for the first. A spectrum is backwards, so the first pair has the root at a last place
pub record AreLeaves (p : ℕ) (roots : List ℕ) (last : ℕ) (spectrum leaves : List ℕ) : Type 0 where
  pub long : length leaves ≡ 2 * length spectrum
  pub weight : (leaf k : ℕ) → 4 * leaf < length spectrum → k < 4 → slice_index_or leaves (8 * leaf + k) 0 ≡ slice_index_or spectrum (4 * leaf + k) 0
  pub first : (pair k : ℕ) → 8 * pair < length spectrum → k < 4 →
      Same (pos p) (pos (slice_index_or leaves (16 * pair + 4 + k) 0)) (neg_ℤ (root_at roots (last - pair)) *ℤ pos (slice_index_or leaves (16 * pair + k) 0))
  pub second : (pair k : ℕ) → 8 * pair < length spectrum → k < 4 →
      Same (pos p) (pos (slice_index_or leaves (16 * pair + 12 + k) 0)) (root_at roots (last - pair) *ℤ pos (slice_index_or leaves (16 * pair + 8 + k) 0))
