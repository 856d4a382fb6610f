-- Integers modulo another one.
use Rattle.std.specs.Prelude.{ℕ, ◌≡◌, ◌<◌, ◌+◌, ◌*◌, ◌/◌, ◌%◌, ◌^◌, List, ℤ, pos, ◌*ℤ◌, ◌+ℤ◌, length, slice_index_or}

-- equal but for a multiple of p
abbrev pub Same : ℤ → ℤ → ℤ → Type 0
Same p a b = (k : ℤ) × (a ≡ b +ℤ (p *ℤ k))

-- a modulus above 2^27, by a 32nd of it at most, and 1 more than a multiple of 2^16
abbrev pub IsModulus : ℕ → Type 0
IsModulus p = (2 ^ 27 < p) × (p < 2 ^ 27 + 2 ^ 22) × (p % 2 ^ 16 ≡ 1)

-- 2^32 times this is 1 modulo such a p: 2^16 times (p / 2^16) is -1
abbrev pub inverse_of_word : ℕ → ℕ
inverse_of_word p = (p / 2 ^ 16) * (p / 2 ^ 16)

-- numbers below p, as remainders modulo p are
abbrev pub AreRemainders : ℕ → List ℕ → Type 0
AreRemainders p xs = (i : ℕ) → i < length xs → slice_index_or xs i 0 < p

-- four of them
pub record AreFour (p : ℕ) (xs : List ℕ) : Type 0 where
  pub four : length xs ≡ 4
  pub less : (k : ℕ) → k < 4 → slice_index_or xs k 0 < p

-- the first `count` numbers are congruent to what a function gives for their places
abbrev pub AreCongruent : ℕ → ℕ → List ℕ → (ℕ → ℤ) → Type 0
AreCongruent p count xs f = (i : ℕ) → i < count → Same (pos p) (pos (slice_index_or xs i 0)) (f i)

-- with `more` added, each bound of the numbers of one list is one of those of another
abbrev pub BoundGrowsBy : ℕ → List ℕ → List ℕ → Type 0
BoundGrowsBy more xs ys = (bound : ℕ) → AreRemainders bound xs → AreRemainders (bound + more) ys

-- the same of four
abbrev pub BoundOfFourGrowsBy : ℕ → List ℕ → List ℕ → Type 0
BoundOfFourGrowsBy more xs ys = (bound : ℕ) → AreFour bound xs → AreFour (bound + more) ys

-- each remainder is the same as the number at its place of a list
abbrev pub AreSame : ℕ → List ℕ → List ℤ → Type 0
AreSame p xs zs = (i : ℕ) → i < length xs → Same (pos p) (pos (slice_index_or xs i 0)) (slice_index_or zs i (pos 0))
