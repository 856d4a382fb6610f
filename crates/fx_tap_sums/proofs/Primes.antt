-- The steps to the tables of roots modulo the three primes.
use Rattle.std.proofs.Common.{◌≡◌, ◌<◌, ◌+◌, ◌*◌, ◌/◌, ◌%◌, ◌==◌, ◌&&◌, Bool, true, false, ap, inl, inr, refl, ℕ, zero, suc, pos, neg_ℤ, ◌*ℤ◌, List, [], ◌∷◌, length, get_or, nat_lt, arith}
use Rattle.std.proofs.lemmas.Bool.{cases_lt}
use Rattle.std.proofs.lemmas.Bool.Decides.{nat_tests}
use Rattle.fx_tap_sums.specs.Residues.{Same}
use Rattle.fx_tap_sums.specs.Transform.{AreSteps, root_at}
use Rattle.fx_tap_sums.proofs.Residues.{same_less, same_sym}

-- ---- tests that compute

-- whether all numbers below a count pass a test
abbrev all_pass : (ℕ → Bool) → ℕ → Bool
all_pass test zero = true
all_pass test (suc n) = test n && all_pass test n

both : (a b : Bool) → (a && b) ≡ true → (a ≡ true) × (b ≡ true)
both true b is = (refl, is)
both false b is = absurd (cc)

one_passes : (test : ℕ → Bool) (n k : ℕ) → all_pass test n ≡ true → k < n → test k ≡ true
one_passes test zero k all lt = absurd (omega arith)
one_passes test (suc n) k all lt =
    let parts = both (test n) (all_pass test n) all in
    elim (cases_lt k n) [
      | inl below ↦ one_passes test n k parts.1 below
      | inr above ↦ let last : n ≡ k = omega arith in rw last at parts.0
    ]

-- whether a step and its inverse are remainders, and their product is 1
abbrev is_inverse : ℕ → List ℕ → List ℕ → ℕ → Bool
is_inverse p steps back k = nat_lt (get_or steps k 0) p && (nat_lt (get_or back k 0) p && ((get_or back k 0 * get_or steps k 0) % p == 1))

-- whether the square of a step is the one before it
abbrev is_root : ℕ → List ℕ → ℕ → Bool
is_root p steps k = (get_or steps (k + 1) 0 * get_or steps (k + 1) 0) % p == get_or steps k 0

product_same : (p x y r : ℕ) → 0 < p → (x * y) % p ≡ r → Same (pos p) (pos x *ℤ pos y) (pos r)
product_same p x y r some is =
    let product : pos x *ℤ pos y ≡ pos (x * y) = ap pos (omega arith) in
    rw product (same_sym (pos p) (pos r) (pos (x * y)) (same_less p r (x * y) (x * y / p) (omega arith)))

-- nine steps that pass the tests
steps_pass : (p : ℕ) (steps back : List ℕ) → length steps ≡ 9 → length back ≡ 9 → Same (pos p) (root_at steps 0 *ℤ root_at steps 0) (neg_ℤ (pos 1)) → all_pass (is_inverse p steps back) 9 ≡ true → all_pass (is_root p steps) 8 ≡ true → AreSteps p steps back
steps_pass p steps back nine beside first inverses roots = record {
  nine = nine;
  beside = beside;
  less = λ i lt. less i (omega arith);
  back_less = λ i lt. back_less i (omega arith);
  first = first;
  squares = λ k lt. let first_less = less 0 (omega arith) in product_same p (get_or steps (k + 1) 0) (get_or steps (k + 1) 0) (get_or steps k 0) (omega arith) (let passes = one_passes (is_root p steps) 8 k roots lt in grind (arith, nat_tests));
  inverse = λ k lt. let first_less = less 0 (omega arith) in product_same p (get_or back k 0) (get_or steps k 0) 1 (omega arith) (let passes = one_passes (is_inverse p steps back) 9 k inverses lt in grind (arith, nat_tests));
}
  where
    less : (i : ℕ) → i < 9 → get_or steps i 0 < p
    less i lt = let passes = one_passes (is_inverse p steps back) 9 i inverses lt in grind (arith, nat_tests)

    back_less : (i : ℕ) → i < 9 → get_or back i 0 < p
    back_less i lt = let passes = one_passes (is_inverse p steps back) 9 i inverses lt in grind (arith, nat_tests)

-- ---- the three primes

abbrev pub steps_of_first : List ℕ
steps_of_first = 63054213 ∷ 108838861 ∷ 111577782 ∷ 103301485 ∷ 7203577 ∷ 8225640 ∷ 2858608 ∷ 1735425 ∷ 20252657 ∷ []

abbrev pub back_of_first : List ℕ
back_of_first = 71294588 ∷ 33316585 ∷ 42131173 ∷ 120897030 ∷ 85419597 ∷ 59517180 ∷ 55321463 ∷ 59336971 ∷ 104969087 ∷ []

pub first_steps : AreSteps 134348801 steps_of_first back_of_first
first_steps = steps_pass 134348801 steps_of_first back_of_first refl refl (pos 29593370, refl) refl refl

abbrev pub steps_of_second : List ℕ
steps_of_second = 122103448 ∷ 17268306 ∷ 27445029 ∷ 10720105 ∷ 125294662 ∷ 83335470 ∷ 7820304 ∷ 74335651 ∷ 28377546 ∷ []

abbrev pub back_of_second : List ℕ
back_of_second = 13031785 ∷ 66513067 ∷ 109080257 ∷ 15677084 ∷ 4899700 ∷ 128276452 ∷ 124192936 ∷ 115432894 ∷ 22271417 ∷ []

pub second_steps : AreSteps 135135233 steps_of_second back_of_second
second_steps = steps_pass 135135233 steps_of_second back_of_second refl refl (pos 110328385, refl) refl refl

abbrev pub steps_of_third : List ℕ
steps_of_third = 2113537 ∷ 40972877 ∷ 95274502 ∷ 32817385 ∷ 103270887 ∷ 51313586 ∷ 83024235 ∷ 23124954 ∷ 64054466 ∷ []

abbrev pub back_of_third : List ℕ
back_of_third = 134201344 ∷ 17121088 ∷ 106193822 ∷ 58134597 ∷ 56152909 ∷ 73588918 ∷ 120474386 ∷ 82606210 ∷ 102223540 ∷ []

pub third_steps : AreSteps 136314881 steps_of_third back_of_third
third_steps = steps_pass 136314881 steps_of_third back_of_third refl refl (pos 32770, refl) refl refl
