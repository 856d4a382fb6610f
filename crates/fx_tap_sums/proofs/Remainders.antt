-- Numbers by their remainders modulo the three primes.
use Rattle.std.proofs.Common.{◌≡◌, ◌+◌, ◌-◌, ◌*◌, ◌^◌, ◌<◌, ◌≤◌, ℕ, arith, refl, ℤ, pos, neg_ℤ, ◌*ℤ◌, ◌+ℤ◌, unsigned_abs, to_z, of_z, w64, ◌-ℤ◌}
use Rattle.std.proofs.lemmas.Int.{ints}
use Rattle.fx_tap_sums.specs.Residues.{Same}
use Rattle.fx_tap_sums.proofs.SmallSums.{held-in-64}

-- a number is the remainder modulo the first prime, so many times that prime, and a multiple of the product of the first two
pairs_in : (first second turns : ℕ) (x : ℤ) → first < 4 * 134348801 → Same (pos 134348801) (pos first) x → Same (pos 135135233) (pos second) x
    → Same (pos 135135233) (pos turns) (pos 112612866 *ℤ pos (second + (8 * 135135233 - first)))
    → (k : ℤ) × (x ≡ (pos first +ℤ (pos 134348801 *ℤ pos turns)) +ℤ (pos 18155256526405633 *ℤ k))
pairs_in first second turns x less one two by =
    let a = one.0 in
    let b = two.0 in
    let e = by.0 in
    let n : ℤ = pos (second + (8 * 135135233 - first)) in
    let z : ℤ = ((b +ℤ pos 8) +ℤ (pos 111957505 *ℤ n)) +ℤ (pos 134348801 *ℤ e) in
    (neg_ℤ ((pos 22391296 *ℤ (pos turns +ℤ a)) -ℤ (pos 22522367 *ℤ z)), omega (arith, ints, one.1, two.1, by.1))

-- the multiple is small, where the number is
pairs_small : (first turns : ℕ) (x k : ℤ) → first < 4 * 134348801 → turns < 135135233 → unsigned_abs x ≤ 2 ^ 61
    → x ≡ (pos first +ℤ (pos 134348801 *ℤ pos turns)) +ℤ (pos 18155256526405633 *ℤ k) → unsigned_abs k ≤ 200
pairs_small first turns x k less below small is = omega (arith, ints)

-- and the third remainder tells it
pairs_is : (first third turns whole by pairs : ℕ) (x k : ℤ) → first < 4 * 134348801 → by < 136314881
    → x ≡ (pos first +ℤ (pos 134348801 *ℤ pos turns)) +ℤ (pos 18155256526405633 *ℤ k)
    → Same (pos 136314881) (pos third) x
    → Same (pos 136314881) (pos whole) (pos 70689802 *ℤ pos (third + (8 * 136314881 - first)))
    → Same (pos 136314881) (pos by) (pos 75730605 *ℤ pos turns)
    → Same (pos 136314881) (pos pairs) (pos (whole + (136314881 - by)))
    → Same (pos 136314881) (pos pairs) k
pairs_is first third turns whole by pairs x k less below is third_same whole_same by_same pairs_same =
    let g = third_same.0 in
    let f = whole_same.0 in
    let h = by_same.0 in
    let m = pairs_same.0 in
    (((((((pos 69670237 *ℤ pos turns) +ℤ (pos 9414903785235465 *ℤ k)) +ℤ (pos 70689802 *ℤ (g +ℤ pos 8))) +ℤ f) +ℤ pos 1) -ℤ h) +ℤ m, omega (arith, ints, third_same.1, whole_same.1, by_same.1, pairs_same.1))

-- a small number is determined by one remainder
determined_once : (c k : ℤ) (pairs : ℕ) → unsigned_abs c ≤ 68157440 → unsigned_abs k ≤ 200 → Same (pos 136314881) c (pos pairs) → Same (pos 136314881) (pos pairs) k → c ≡ k
determined_once c k pairs small k_small near same = omega (arith, ints, near.1, same.1)

-- so the number is determined by the remainders
pub three_is : (first second third turns whole by pairs : ℕ) (centred x : ℤ) → first < 4 * 134348801 → turns < 135135233 → by < 136314881 → unsigned_abs centred ≤ 68157440 → unsigned_abs x ≤ 2 ^ 61
    → Same (pos 134348801) (pos first) x → Same (pos 135135233) (pos second) x → Same (pos 136314881) (pos third) x
    → Same (pos 135135233) (pos turns) (pos 112612866 *ℤ pos (second + (8 * 135135233 - first)))
    → Same (pos 136314881) (pos whole) (pos 70689802 *ℤ pos (third + (8 * 136314881 - first)))
    → Same (pos 136314881) (pos by) (pos 75730605 *ℤ pos turns)
    → Same (pos 136314881) (pos pairs) (pos (whole + (136314881 - by)))
    → Same (pos 136314881) centred (pos pairs)
    → (unsigned_abs centred ≤ 200) × (x ≡ (pos first +ℤ (pos 134348801 *ℤ pos turns)) +ℤ (pos 18155256526405633 *ℤ centred))
three_is first second third turns whole by pairs centred x less below by_less small bound one two three turns_same whole_same by_same pairs_same near =
    let in_pairs = pairs_in first second turns x less one two turns_same in
    let k : ℤ = in_pairs.0 in
    let k_small : unsigned_abs k ≤ 200 = pairs_small first turns x k less below bound in_pairs.1 in
    let determined = pairs_is first third turns whole by pairs x k less by_less in_pairs.1 three whole_same by_same pairs_same in
    let same : centred ≡ k = determined_once centred k pairs small k_small near determined in
    let is = in_pairs.1 in
    rw same (k_small, is)

-- the sum that joins three remainders fits 64 bits
pub joined_held : (first turns : ℕ) (centred f t p : ℤ) → f ≡ pos first → t ≡ pos turns → p ≡ pos 134348801 → first < 4 * 134348801 → turns < 135135233 → unsigned_abs centred ≤ 200
    → to_z w64 (of_z w64 (to_z w64 (of_z w64 centred) *ℤ pos 18155256526405633)) +ℤ to_z w64 (of_z w64 (to_z w64 (of_z w64 (to_z w64 (of_z w64 t) *ℤ to_z w64 (of_z w64 p))) +ℤ to_z w64 (of_z w64 f)))
    ≡ (centred *ℤ pos 18155256526405633) +ℤ ((pos turns *ℤ pos 134348801) +ℤ pos first)
joined_held first turns centred f t p f_is t_is p_is less below small =
    rw (f_is, t_is, p_is, held-in-64 centred (omega arith), held-in-64 (centred *ℤ pos 18155256526405633) (omega (arith, ints)), held-in-64 (pos turns) (omega (arith, ints)), held-in-64 (pos turns *ℤ pos 134348801) (omega (arith, ints)), held-in-64 (pos first) (omega (arith, ints)), held-in-64 ((pos turns *ℤ pos 134348801) +ℤ pos first) (omega (arith, ints)))
    refl
