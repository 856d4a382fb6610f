-- Weights prepared for transforms.
use Rattle.std.specs.Prelude.{ℕ, cond, nat_eq, ◌+◌, ◌-◌, ◌^◌, ◌≡◌, ◌<◌, ◌≤◌, ◌*◌, ◌⊎◌, List, ◌∷◌, ◌++◌, ℤ, pos, ◌*ℤ◌, drop, length, map, replicate, slice_index_or, sum_by, unsigned_abs}
use Rattle.fx_tap_sums.specs.declared.transforms.remainders.TheConstants.{FIRST, SECOND, THIRD}
use Rattle.fx_tap_sums.specs.declared.transforms.prepared.Prepared.{Prepared}
use Rattle.fx_tap_sums.specs.declared.transforms.spectrum.Transforms.{Transforms}
use Rattle.fx_tap_sums.specs.Convolution.{AreSums}
use Rattle.fx_tap_sums.specs.Leaves.{AreLeaves}
use Rattle.fx_tap_sums.specs.Products.{sum_of_products}
use Rattle.fx_tap_sums.specs.Residues.{AreRemainders, AreSame, Same}
use Rattle.fx_tap_sums.specs.Transform.{AreRoots, IsTransform}

-- how many numbers transforms of windows have
abbrev pub IsSize : ℕ → Type 0
IsSize n = (n ≡ 1024) ⊎ ((n ≡ 2048) ⊎ ((n ≡ 3072) ⊎ (n ≡ 4096)))

-- how many sums a transform of so many numbers gives at most: of 3,072 numbers the first 2,048 have sums
abbrev pub max_sums : ℕ → ℕ
max_sums n = cond (nat_eq n 3072) 2048 n

-- a list with zeros after it, n numbers in all
abbrev pub padded_weights : ℕ → List ℤ → List ℤ
padded_weights n xs = xs ++ replicate (n - length xs) (pos 0)

-- the roots are a table modulo p, and the leaves are those of a spectrum, the transform of the weights, each times 2^(32 - levels):
-- that times 2^levels is 2^32. The transform is from a place of the table of roots on
pub record IsPreparedWeights (p levels place : ℕ) (weights : List ℤ) (roots inverses leaves : List ℕ) : Type 0 where
  pub table : length roots ≡ 512
  pub beside : length inverses ≡ 512
  pub long : length leaves ≡ 8 * 2 ^ levels
  pub remainders : AreRemainders p leaves
  pub are : AreRoots p roots inverses
  pub spectrum : List ℕ
  pub transform : IsTransform p roots levels place (padded_weights (4 * 2 ^ levels) (map (λ w. pos (2 ^ (32 - levels)) *ℤ w) weights)) spectrum
  pub of_spectrum : AreLeaves p roots (2 ^ (levels - 1) * (place + 1) - 1) spectrum leaves

-- weights prepared for transforms of 1,024, of 2,048 and of 4,096 numbers; and of 1,024 modulo x^1024 - r, where r is the root at
-- place 1
pub record ArePreparedModulo (p : ℕ) (weights : List ℤ) (prepared : Prepared p) : Type 0 where
  pub bound : length weights ≤ 1024
  pub small : IsPreparedWeights p 8 0 weights prepared.table.roots.items prepared.table.inverses.items prepared.small.items
  pub medium : IsPreparedWeights p 9 0 weights prepared.table.roots.items prepared.table.inverses.items prepared.medium.items
  pub large : IsPreparedWeights p 10 0 weights prepared.table.roots.items prepared.table.inverses.items prepared.large.items
  pub turned : IsPreparedWeights p 8 2 weights prepared.table.roots.items prepared.table.inverses.items prepared.turned.items

-- weights of at most 2^30 together that are prepared modulo the first two primes
pub record ArePreparedModuloTwo (transforms : Transforms) (weights : List ℤ) : Type 0 where
  pub small : sum_by unsigned_abs weights ≤ 2 ^ 30
  pub first : ArePreparedModulo FIRST weights transforms.first
  pub second : ArePreparedModulo SECOND weights transforms.second

-- and modulo the third one
pub record ArePrepared (transforms : Transforms) (weights : List ℤ) : Type 0 where
  pub two : ArePreparedModuloTwo transforms weights
  pub third : ArePreparedModulo THIRD weights transforms.third

-- so many weights are prepared modulo the first two primes
abbrev pub HaveTwoPrepared : Transforms → ℕ → Type 0
HaveTwoPrepared transforms count = (ws : List ℤ) × (length ws ≡ count) × ArePreparedModuloTwo transforms ws

-- so many weights are prepared modulo all three
abbrev pub HavePrepared : Transforms → ℕ → Type 0
HavePrepared transforms count = (ws : List ℤ) × (length ws ≡ count) × ArePrepared transforms ws

-- the sums are those of the weights, so many, that are prepared modulo the first two primes
abbrev pub AreSumsOfTwo : Transforms → ℕ → List ℤ → List ℤ → Type 0
AreSumsOfTwo transforms count window sums = (ws : List ℤ) → length ws ≡ count → ArePreparedModuloTwo transforms ws → AreSums ws window sums

-- of the weights that are prepared modulo all three
abbrev pub AreSumsOf : Transforms → ℕ → List ℤ → List ℤ → Type 0
AreSumsOf transforms count window sums = (ws : List ℤ) → length ws ≡ count → ArePrepared transforms ws → AreSums ws window sums

-- more numbers than the window has, congruent to a zero, to the window after it, and to zeros after that
abbrev pub IsLoaded : ℕ → List ℤ → List ℕ → Type 0
IsLoaded p window values = (length window < length values) × AreSame p values (pos 0 ∷ window)

-- numbers congruent to the sums of the weights times as many samples of the window, from each of its places on
abbrev pub AreSumsModulo : ℕ → List ℤ → List ℤ → List ℕ → Type 0
AreSumsModulo p weights window values = (i : ℕ) → i < max_sums (length values) → i + length weights ≤ length window → Same (pos p) (pos (slice_index_or values i 0)) (sum_of_products (drop i window) weights)

-- weights that can be prepared: at most 1,024, of at most 2^30 together
abbrev pub ArePreparable : List ℤ → Type 0
ArePreparable weights = (length weights ≤ 1024) × (sum_by unsigned_abs weights ≤ 2 ^ 30)

-- weights that cannot: more of them, or of more together
abbrev pub ExceedPreparable : List ℤ → Type 0
ExceedPreparable weights = (1024 < length weights) ⊎ (2 ^ 30 < sum_by unsigned_abs weights)
