-- Four numbers at a time by their remainders modulo the first two primes.
use Rattle.std.proofs.Common.{◌≡◌, ◌+◌, ◌-◌, ◌*◌, ◌^◌, ◌<◌, ◌≤◌, ℕ, arith, ℤ, pos, neg_ℤ, ◌*ℤ◌, ◌+ℤ◌, unsigned_abs, List, length, get_or, ◌-ℤ◌}
use Rattle.std.proofs.lemmas.Int.{ints}
use Rattle.std.proofs.lemmas.Simd.{Each1-from_get_or}
use Rattle.fx_tap_sums.specs.Joined.{HasBoth}
use Rattle.fx_tap_sums.specs.Lanes.{LanesWithin, WithinLane}
use Rattle.fx_tap_sums.specs.Residues.{Same}

-- a number and half of the product are the remainder modulo the first prime, so many times that prime, and a multiple of the product
raised_in : (first second turns : ℕ) (x : ℤ) → first < 4 * 134348801 → Same (pos 134348801) (pos first) x → Same (pos 135135233) (pos second) x
    → Same (pos 135135233) (pos turns) (pos 112612866 *ℤ pos (second + (1081475080 - first)))
    → (k : ℤ) × (x +ℤ pos 9077628196028416 ≡ (pos first +ℤ (pos 134348801 *ℤ pos turns)) +ℤ (pos 18155256526405633 *ℤ k))
raised_in first second turns x less one two by =
    let a = one.0 in
    let b = two.0 in
    let e = by.0 in
    let n : ℤ = pos (second + (1081475080 - first)) in
    let z : ℤ = ((b -ℤ pos 67174392) +ℤ (pos 111957505 *ℤ n)) +ℤ (pos 134348801 *ℤ e) in
    (neg_ℤ ((pos 22391296 *ℤ ((pos turns -ℤ pos 67567616) +ℤ a)) -ℤ (pos 22522367 *ℤ z)), omega (arith, ints, one.1, two.1, by.1))

-- the multiple is none, where the number is small
raised_small : (first turns : ℕ) (x k : ℤ) → first < 4 * 134348801 → turns < 135135233 → unsigned_abs x ≤ 2 ^ 53
    → x +ℤ pos 9077628196028416 ≡ (pos first +ℤ (pos 134348801 *ℤ pos turns)) +ℤ (pos 18155256526405633 *ℤ k)
    → pos (turns * 134348801 + first) ≡ x +ℤ pos 9077628196028416
raised_small first turns x k less below small is = omega (arith, ints)

pub raised_is : (first second turns : ℕ) (x : ℤ) → first < 4 * 134348801 → turns < 135135233 → HasBoth first second x
    → Same (pos 135135233) (pos turns) (pos 112612866 *ℤ pos (second + (1081475080 - first)))
    → pos (turns * 134348801 + first) ≡ x +ℤ pos 9077628196028416
raised_is first second turns x less below both by =
    let in_pairs = raised_in first second turns x less both.modulo_first both.modulo_second by in
    raised_small first turns x in_pairs.0 less below both.small in_pairs.1

-- four lanes that are small
pub lanes_small : (xs : List ℤ) → length xs ≡ 4 → ((k : ℕ) → k < 4 → unsigned_abs (get_or xs k (pos 0)) ≤ 2 ^ 61) → LanesWithin (2 ^ 61) xs
lanes_small xs four all = record {
  four = four;
  small = Each1-from_get_or (WithinLane (2 ^ 61)) xs (pos 0) (λ k l. all k (omega (arith, four, l)));
}

-- the lanes are small, as each is 256 times such a number
pub joined_small : (at : ℕ) (firsts seconds first second : List ℕ) (xs : List ℤ) → length xs ≡ 4
    → ((k : ℕ) → k < 4 → get_or first k 0 ≡ get_or firsts (at + k) 0) → ((k : ℕ) → k < 4 → get_or second k 0 ≡ get_or seconds (at + k) 0)
    → ((k : ℕ) → k < 4 → (x : ℤ) → HasBoth (get_or first k 0) (get_or second k 0) x → get_or xs k (pos 0) ≡ pos 256 *ℤ x)
    → ((k : ℕ) → k < 4 → (x : ℤ) × HasBoth (get_or firsts (at + k) 0) (get_or seconds (at + k) 0) x)
    → LanesWithin (2 ^ 61) xs
joined_small at firsts seconds first second xs four one two is given = lanes_small xs four (λ k l.
    let x : ℤ = (given k l).0 in
    let both : HasBoth (get_or first k 0) (get_or second k 0) x = rw (one k l, two k l) (given k l).1 in
    rw (is k l x both) (omega (arith, ints, both.small)))
