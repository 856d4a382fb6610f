-- The eight numbers that a stage counted.
use Rattle.std.proofs.Common.{ℕ, zero, suc, ◌≡◌, ◌≤◌, ◌*◌, Bool, true, false, cond, List, [], ◌∷◌, length, refl, arith, nat_eq, slice_index_or}

-- eight numbers are the one at each place
pub eight-numbers : (ns : List ℕ) → length ns ≡ 8
    → ns ≡ slice_index_or ns 0 0 ∷ slice_index_or ns 1 0 ∷ slice_index_or ns 2 0 ∷ slice_index_or ns 3 0 ∷ slice_index_or ns 4 0 ∷ slice_index_or ns 5 0 ∷ slice_index_or ns 6 0 ∷ slice_index_or ns 7 0 ∷ []
eight-numbers [] h = absurd (omega arith)
eight-numbers (a ∷ []) h = absurd (omega arith)
eight-numbers (a ∷ b ∷ []) h = absurd (omega arith)
eight-numbers (a ∷ b ∷ c ∷ []) h = absurd (omega arith)
eight-numbers (a ∷ b ∷ c ∷ d ∷ []) h = absurd (omega arith)
eight-numbers (a ∷ b ∷ c ∷ d ∷ e ∷ []) h = absurd (omega arith)
eight-numbers (a ∷ b ∷ c ∷ d ∷ e ∷ f ∷ []) h = absurd (omega arith)
eight-numbers (a ∷ b ∷ c ∷ d ∷ e ∷ f ∷ g ∷ []) h = absurd (omega arith)
eight-numbers (a ∷ b ∷ c ∷ d ∷ e ∷ f ∷ g ∷ i ∷ []) h = refl
eight-numbers (a ∷ b ∷ c ∷ d ∷ e ∷ f ∷ g ∷ i ∷ j ∷ ns) h = absurd (omega arith)

-- a number that is no more than one, as a flag and back
pub flag-back : (n : ℕ) → n ≤ 1 → cond (nat_eq n 1) 1 0 ≡ n
flag-back zero h = refl
flag-back (suc zero) h = refl
flag-back (suc (suc n)) h = absurd (omega arith)

-- the flag that its number stands for
pub flag-of : (b : Bool) → nat_eq (cond b 1 0) 1 ≡ b
flag-of true = refl
flag-of false = refl

-- what a flag says as a number
pub flag-true : (b : Bool) → 1 ≤ cond b 1 0 → b ≡ true
flag-true true some = refl
flag-true false some = absurd (omega arith)

pub flag-false : (b : Bool) → ◌≡◌ {A = ℕ} (cond b 1 0) 0 → b ≡ false
flag-false true none = absurd (omega arith)
flag-false false none = refl

-- a number that is there with the flag alone
pub flag-times : (b : Bool) (n : ℕ) → cond b n 0 ≡ cond b 1 0 * n
flag-times true n = omega arith
flag-times false n = omega arith

pub times-flag : (n m : ℕ) → n ≤ 1 → n * m ≡ cond (nat_eq n 1) m 0
times-flag zero m h = omega arith
times-flag (suc zero) m h = omega arith
times-flag (suc (suc n)) m h = absurd (omega arith)
