-- The product of two lists modulo x^n - s and a number p, by a transform.
use Rattle.std.specs.Prelude.{ℕ, zero, suc, ◌+◌, ◌-◌, ◌*◌, ◌^◌, ◌<◌, ◌≡◌, List, [], ◌∷◌, ℤ, pos, neg_ℤ, ◌*ℤ◌, ◌+ℤ◌, length, drop, take, slice_index_or}
use Rattle.fx_tap_sums.specs.Products.{sum_of_products}
use Rattle.fx_tap_sums.specs.Residues.{AreRemainders, AreSame, Same}

-- number i of the product of a and b modulo x^n - s, where h is b backwards: the products a_j * b_(i-j), and s times those that
-- wrap around
abbrev pub cyclic : ℤ → List ℤ → List ℤ → ℕ → ℤ
cyclic s a h i = sum_of_products a (drop (length h - 1 - i) h) +ℤ (s *ℤ sum_of_products (drop (i + 1) a) h)

-- one list plus r times another
abbrev pub combined : ℤ → List ℤ → List ℤ → List ℤ
combined r [] ys = []
combined r (x ∷ xs) [] = []
combined r (x ∷ xs) (y ∷ ys) = (x +ℤ (r *ℤ y)) ∷ combined r xs ys

-- the root at a place of a table
abbrev pub root_at : List ℕ → ℕ → ℤ
root_at roots place = pos (slice_index_or roots place 0)

-- steps to a table of roots modulo p, remainders: the square of the first one is -1, that of each other the one before it; and
-- next to each its inverse
pub record AreSteps (p : ℕ) (steps back : List ℕ) : Type 0 where
  pub nine : length steps ≡ 9
  pub beside : length back ≡ 9
  pub less : AreRemainders p steps
  pub back_less : AreRemainders p back
  pub first : Same (pos p) (root_at steps 0 *ℤ root_at steps 0) (neg_ℤ (pos 1))
  pub squares : (k : ℕ) → k < 8 → Same (pos p) (root_at steps (k + 1) *ℤ root_at steps (k + 1)) (root_at steps k)
  pub inverse : (k : ℕ) → k < 9 → Same (pos p) (root_at back k *ℤ root_at steps k) (pos 1)

-- a table of 512 roots modulo p: at places 2j and 2j + 1 stand square roots of the root at place j and of its negative, and
-- next to each its inverse
pub record AreRoots (p : ℕ) (roots inverses : List ℕ) : Type 0 where
  pub first : Same (pos p) (root_at roots 0) (pos 1)
  pub even : (j : ℕ) → j < 256 → Same (pos p) (root_at roots (2 * j) *ℤ root_at roots (2 * j)) (root_at roots j)
  pub odd : (j : ℕ) → j < 256 → Same (pos p) (root_at roots (2 * j + 1) *ℤ root_at roots (2 * j + 1)) (neg_ℤ (root_at roots j))
  pub inverse : (j : ℕ) → j < 512 → Same (pos p) (root_at inverses j *ℤ root_at roots j) (pos 1)

-- f is the transform modulo p, from a place of the table on, of the 2^levels times four numbers of which h is the list
-- backwards; f is backwards too
unfoldable pub IsTransform : ℕ → List ℕ → ℕ → ℕ → List ℤ → List ℕ → Type 0
IsTransform p roots zero place h f = AreSame p f h
IsTransform p roots (suc levels) place h f =
    IsTransform p roots levels (2 * place) (combined (root_at roots place) (drop (4 * 2 ^ levels) h) (take (4 * 2 ^ levels) h)) (drop (4 * 2 ^ levels) f)
    × IsTransform p roots levels (2 * place + 1) (combined (neg_ℤ (root_at roots place)) (drop (4 * 2 ^ levels) h) (take (4 * 2 ^ levels) h)) (take (4 * 2 ^ levels) f)

-- the first 4 * groups numbers are a factor times the product of a and h modulo x^n - s and p
abbrev pub IsProduct : ℕ → ℕ → ℕ → ℤ → List ℤ → List ℤ → List ℕ → Type 0
IsProduct p groups factor s a h xs = (i : ℕ) → i < 4 * groups → Same (pos p) (pos (slice_index_or xs i 0)) (pos factor *ℤ cyclic s a h i)
