-- Numbers that are determined by those to which they are congruent modulo two or three primes.
use Rattle.std.specs.Prelude.{ℕ, ◌≡◌, ◌<◌, ◌≤◌, ◌^◌, List, ℤ, pos, ◌+ℤ◌, ◌*ℤ◌, length, slice_index_or, unsigned_abs}
use Rattle.fx_tap_sums.specs.declared.transforms.remainders.TheConstants.{FIRST, SECOND, THIRD}
use Rattle.fx_tap_sums.specs.Residues.{Same}

-- a number of magnitude at most 2^53 that is congruent to these modulo the first two primes
pub record HasBoth (first second : ℕ) (number : ℤ) : Type 0 where
  pub small : unsigned_abs number ≤ 2 ^ 53
  pub modulo_first : Same (pos FIRST) (pos first) number
  pub modulo_second : Same (pos SECOND) (pos second) number

-- a number of magnitude at most 2^61 that is congruent to these modulo the three primes
pub record HasThree (first second third : ℕ) (number : ℤ) : Type 0 where
  pub small : unsigned_abs number ≤ 2 ^ 61
  pub modulo_first : Same (pos FIRST) (pos first) number
  pub modulo_second : Same (pos SECOND) (pos second) number
  pub modulo_third : Same (pos THIRD) (pos third) number

-- the same, with the numbers at a place of two lists
abbrev pub HasBothAt : List ℕ → List ℕ → ℕ → ℤ → Type 0
HasBothAt first second place number = HasBoth (slice_index_or first place 0) (slice_index_or second place 0) number

-- such numbers, each with a further one added
abbrev pub AreRaised : ℕ → List ℕ → List ℕ → List ℕ → Type 0
AreRaised more first second sums = (i : ℕ) → i < length sums → (x : ℤ) → HasBothAt first second i x → pos (slice_index_or sums i 0) ≡ x +ℤ pos more

-- such numbers, each so many times
abbrev pub AreJoined : ℕ → List ℕ → List ℕ → List ℤ → Type 0
AreJoined times first second sums = (i : ℕ) → i < length sums → (x : ℤ) → HasBothAt first second i x → slice_index_or sums i (pos 0) ≡ pos times *ℤ x
