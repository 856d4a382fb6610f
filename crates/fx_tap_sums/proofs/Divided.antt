-- Samples that are multiples of 256, and sums of products with them.
use Rattle.std.proofs.Common.{◌≡◌, ◌+◌, ◌%◌, ◌<◌, ◌≤◌, ◌^◌, sym, ℕ, suc, arith, ℤ, pos, negsuc, ◌*ℤ◌, List, [], ◌∷◌, length, get_or, drop, ◌+ℤ◌, to_z, of_z, w32, unsigned_abs, bit_or, map, inl, inr, SFits}
use Rattle.std.proofs.lemmas.Bool.{cases_lt}
use Rattle.std.proofs.lemmas.Int.{ints, fits_signed_from_abs, to_z-of_z, to_z_pos}
use Rattle.std.proofs.lemmas.Nat.{or_mod, le_or_l, le_or_r}
use Rattle.std.proofs.lemmas.List.{length-drop, length-map, get_or-drop, get_or-map, get_or_past}
use lib.Signed.{shr_z}
use borrow.Author.Differences.{product_is}
use Rattle.fx_tap_sums.specs.Products.{sum_of_products}
use Rattle.fx_tap_sums.specs.Residues.{Same}
use Rattle.fx_tap_sums.specs.Upper.{AreUpper}
use Rattle.fx_tap_sums.proofs.Numbers.{mul-add, mul_assoc}
use Rattle.fx_tap_sums.proofs.Cyclic.{nothing}

-- what has no rest is a multiple
whole_is : (z : ℤ) → SFits w32 z → of_z w32 z % 256 ≡ 0 → z ≡ pos 256 *ℤ shr_z z 256
whole_is (pos n) fits none = omega (arith, ints)
whole_is (negsuc n) fits none = omega (arith, ints)

upper_small : (z upper : ℤ) → SFits w32 z → z ≡ pos 256 *ℤ upper → unsigned_abs upper ≤ 2 ^ 23
upper_small (pos n) upper fits is = omega (arith, ints, is, fits.sfits)
upper_small (negsuc n) upper fits is = omega (arith, ints, is, fits.sfits)

-- a sample that is 256 times its upper 24 bits
abbrev pub IsUpper : ℤ → Type 0
IsUpper z = (unsigned_abs (shr_z z 256) ≤ 2 ^ 23) × (z ≡ pos 256 *ℤ shr_z z 256)

pub is_upper : (z : ℤ) → SFits w32 z → of_z w32 z % 256 ≡ 0 → IsUpper z
is_upper z fits none = let is = whole_is z fits none in (upper_small z (shr_z z 256) fits is, is)

-- the upper 24 bits, and the modulus more: the remainder of a sample over 256
shift_is : (z upper : ℤ) → z ≡ pos 256 *ℤ upper → shr_z z 256 ≡ upper
shift_is (pos n) upper is = omega (arith, ints, is)
shift_is (negsuc n) upper is = omega (arith, ints, is)

pub upper_same : (p : ℕ) (z upper : ℤ) → 2 ^ 27 < p → p < 2 ^ 27 + 2 ^ 22 → SFits w32 z → z ≡ pos 256 *ℤ upper
    → Same (pos p) (pos (unsigned_abs (to_z w32 (of_z w32 (to_z w32 (of_z w32 (shr_z (to_z w32 (of_z w32 z)) 256)) +ℤ to_z w32 p))))) upper
upper_same p z upper large less fits is =
    let small : unsigned_abs upper ≤ 2 ^ 23 = upper_small z upper fits is in
    let back : to_z w32 (of_z w32 z) ≡ z = to_z-of_z w32 z fits in
    let shifted : to_z w32 (of_z w32 upper) ≡ upper = to_z-of_z w32 upper (fits_signed_from_abs w32 upper (omega (arith, small))) in
    let modulus : to_z w32 p ≡ pos p = to_z_pos w32 p (omega (arith, less)) in
    let sum : unsigned_abs (upper +ℤ pos p) < 2 ^ 31 = omega (arith, ints, small, less) in
    let held : to_z w32 (of_z w32 (upper +ℤ pos p)) ≡ upper +ℤ pos p = to_z-of_z w32 (upper +ℤ pos p) (fits_signed_from_abs w32 (upper +ℤ pos p) sum) in
    let above : pos (unsigned_abs (upper +ℤ pos p)) ≡ upper +ℤ pos p = omega (arith, ints, small, large) in
    rw (back, shift_is z upper is, shifted, modulus, held, above) (pos 1, omega (arith, ints))

-- two numbers whose lower 8 bits are zero, together
pub none_of_both : (a b : ℕ) → bit_or a b % 256 ≡ 0 → (a % 256 ≡ 0) × (b % 256 ≡ 0)
none_of_both a b none =
    let split = or_mod a b 8 in
    let first = le_or_l (a % 2 ^ 8) (b % 2 ^ 8) in
    let second = le_or_r (a % 2 ^ 8) (b % 2 ^ 8) in
    (omega (arith, split, first, none), omega (arith, split, second, none))

-- samples that are all so
pub upper_of : (xs : List ℤ) → ((k : ℕ) → k < length xs → IsUpper (get_or xs k (pos 0))) → (upper : List ℤ) × AreUpper xs upper
upper_of xs each =
    let f : ℤ → ℤ = λ z. shr_z z 256 in
    let ys : List ℤ = map f xs in
    let same_long : length ys ≡ length xs = length-map xs f in (
      ys,
      record {
        long = same_long;
        small = λ k. elim (cases_lt k (length xs)) [
          | inl below ↦ rw (get_or-map f xs k (pos 0) (pos 0) below) (each k below).0
          | inr above ↦
              let beyond : get_or ys k (pos 0) ≡ pos 0 = get_or_past ys k (pos 0) (omega arith) in
              rw beyond (omega arith)
        ];
        are = λ k lt.
            let below : k < length xs = omega arith in
            rw (get_or-map f xs k (pos 0) (pos 0) below) (each k below).1;
      },
    )

-- numbers that are so many times others
times-others : (r : ℤ) (xs ys cs : List ℤ) → length cs ≤ length xs → length cs ≤ length ys → ((k : ℕ) → k < length cs → get_or xs k (pos 0) ≡ r *ℤ get_or ys k (pos 0))
    → sum_of_products xs cs ≡ r *ℤ sum_of_products ys cs
times-others r xs ys [] x_long y_long are = let none = product_is r (pos 0) in rw (nothing xs, nothing ys) (omega (arith, ints))
times-others r (x ∷ xs) (y ∷ ys) (c ∷ cs) x_long y_long are =
    let rest = times-others r xs ys cs (omega arith) (omega arith) (λ k h. are (suc k) (omega arith)) in
    let first : x ≡ r *ℤ y = are 0 (omega arith) in
    let turned : r *ℤ (y *ℤ c) ≡ (r *ℤ y) *ℤ c = mul_assoc r y c in
    let parts = mul-add r (y *ℤ c) (sum_of_products ys cs) in
    rw (rest, first, ← turned) (sym parts)
times-others r _ _ _ x_long y_long are = absurd (omega arith)

-- from a place on
times-from : (r : ℤ) (xs ys cs : List ℤ) (i : ℕ) → length ys ≡ length xs → i + length cs ≤ length xs → ((k : ℕ) → k < length ys → get_or xs k (pos 0) ≡ r *ℤ get_or ys k (pos 0))
    → sum_of_products (drop i xs) cs ≡ r *ℤ sum_of_products (drop i ys) cs
times-from r xs ys cs i long bound are =
    let x_left = length-drop i xs in
    let y_left = length-drop i ys in
    times-others r (drop i xs) (drop i ys) cs (omega arith) (omega arith) (λ k h. rw (get_or-drop i xs k (pos 0), get_or-drop i ys k (pos 0)) (are (i + k) (omega arith)))

-- those of samples that are 256 times others
pub upper_sum : (w upper ws : List ℤ) (i : ℕ) → AreUpper w upper → i + length ws ≤ length w → sum_of_products (drop i w) ws ≡ pos 256 *ℤ sum_of_products (drop i upper) ws
upper_sum w upper ws i are bound = times-from (pos 256) w upper ws i are.long bound are.are
