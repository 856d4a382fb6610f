-- Products by the table of leaves.
use Rattle.std.specs.Prelude.{ℕ, ◌+◌, ◌-◌, ◌*◌, ◌^◌, ◌<◌, ◌≡◌, List, ℤ, pos, ◌*ℤ◌, length, slice_index_or}
use Rattle.fx_tap_sums.specs.Leaves.{AreLeaves}
use Rattle.fx_tap_sums.specs.Residues.{AreSame, Same, inverse_of_word}
use Rattle.fx_tap_sums.specs.Transform.{IsProduct, IsTransform, root_at}

-- from a place on a table has numbers congruent to the four of h, and s times each after them
pub record IsLeaf (p : ℕ) (s : ℤ) (h : List ℤ) (leaves : List ℕ) (place : ℕ) : Type 0 where
  pub weights : (k : ℕ) → k < 4 → Same (pos p) (pos (slice_index_or leaves (place + k) 0)) (slice_index_or h k (pos 0))
  pub wrapped : (k : ℕ) → k < 4 → Same (pos p) (pos (slice_index_or leaves (place + 4 + k) 0)) (s *ℤ pos (slice_index_or leaves (place + k) 0))

-- the numbers become their product with the weights of the leaf, modulo x^4 - s, divided by 2^32 modulo p
abbrev pub MultipliesByLeaf : ℕ → List ℕ → ℕ → List ℕ → List ℕ → Type 0
MultipliesByLeaf p leaves place old new =
    (s : ℤ) (a h : List ℤ) → length a ≡ 4 → length h ≡ 4 → AreSame p old a → IsLeaf p s h leaves place → IsProduct p 1 (inverse_of_word p) s a h new

-- the numbers become 2^levels times their product with those of which a table has the leaves, divided by 2^32 modulo p. The product
-- is modulo x^n - s, where s is the square of the root at a place. The first pair of leaves has the last of the roots that come of it
abbrev pub MultipliesBy : ℕ → ℕ → List ℕ → ℕ → List ℕ → List ℕ → List ℕ → Type 0
MultipliesBy p levels roots place leaves old new =
    (s : ℤ) (a h : List ℤ) (spectrum : List ℕ) → Same (pos p) (root_at roots place *ℤ root_at roots place) s → length a ≡ length old → length h ≡ length old → AreSame p old a
    → IsTransform p roots levels place h spectrum → AreLeaves p roots (2 ^ (levels - 1) * (place + 1) - 1) spectrum leaves
    → IsProduct p (2 ^ levels) (2 ^ levels * inverse_of_word p) s a h new
