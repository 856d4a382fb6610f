-- The remainders of samples of 32 bits: a sample less the multiple of the modulus whose number is that of the nearest multiple of
-- 2^27.
use Rattle.std.proofs.Common.{◌≡◌, ◌+◌, ◌*◌, ◌%◌, ◌<◌, ◌≤◌, ◌^◌, ◌∙◌, ap, sym, refl, ℕ, arith, rules, ℤ, pos, negsuc, neg_ℤ, ◌*ℤ◌, ◌+ℤ◌, to_z, of_z, w32, unsigned_abs, Fits, ◌-ℤ◌, ◌≤ℤ◌, SFits}
use Rattle.std.specs.Int.{int_wrap}
use Rattle.std.proofs.Math.IntN.{*ℤ_comm}
use Rattle.std.proofs.lemmas.Int.{ints, fits_signed_from_abs, int_wrap_fits, int_wrap-add_right, to_z-of_z, to_z_pos, wrapping_add-bits, wrapping_mul-bits}
use lib.Dec.{T}
use lib.Signed.{shr_z, non_neg}
use Rattle.fx_tap_sums.specs.Residues.{Same}
use Rattle.fx_tap_sums.proofs.Magnitudes.{scaled-bound}
use Rattle.fx_tap_sums.proofs.Numbers.{add-mul, mul-add, neg-mul, one-times}

-- the number of the nearest multiple of 2^27
abbrev pub nearest : ℤ → ℤ
nearest z = shr_z (shr_z z 67108864 +ℤ pos 1) 2

-- a sample is a multiple of 2^26 and less than that more
half_parts : (z : ℤ) → ((pos 67108864 *ℤ shr_z z 67108864) ≤ℤ z) × ((z +ℤ pos 1) ≤ℤ ((pos 67108864 *ℤ shr_z z 67108864) +ℤ pos 67108864))
half_parts (pos n) = (omega (arith, ints), omega (arith, ints))
half_parts (negsuc n) = (omega (arith, ints), omega (arith, ints))

half_small : (z : ℤ) → SFits w32 z → unsigned_abs (shr_z z 67108864) ≤ 32
half_small (pos n) fits = omega (arith, ints, fits.sfits)
half_small (negsuc n) fits = omega (arith, ints, fits.sfits)

two_parts : (z : ℤ) → ((pos 2 *ℤ shr_z z 2) ≤ℤ z) × (z ≤ℤ ((pos 2 *ℤ shr_z z 2) +ℤ pos 1))
two_parts (pos n) = (omega (arith, ints), omega (arith, ints))
two_parts (negsuc n) = (omega (arith, ints), omega (arith, ints))

nearest_small : (z : ℤ) → SFits w32 z → unsigned_abs (nearest z) ≤ 16
nearest_small z fits =
    let two = two_parts (shr_z z 67108864 +ℤ pos 1) in
    omega (arith, ints, half_small z fits, two.0, two.1)

-- what the nearest multiple of 2^27 leaves
rest_small : (z : ℤ) → (pos (unsigned_abs ((z -ℤ (pos 134217728 *ℤ nearest z)) +ℤ pos 67108864)) ≡ (z -ℤ (pos 134217728 *ℤ nearest z)) +ℤ pos 67108864) × (unsigned_abs ((z -ℤ (pos 134217728 *ℤ nearest z)) +ℤ pos 67108864) < 2 ^ 27)
rest_small z =
    let half = half_parts z in
    let two = two_parts (shr_z z 67108864 +ℤ pos 1) in
    (omega (arith, ints, half.0, half.1, two.0, two.1), omega (arith, ints, half.0, half.1, two.0, two.1))

-- what the modulus is more than 2^27, so many times
turns_small : (p : ℕ) (z : ℤ) → 2 ^ 27 < p → p < 2 ^ 27 + 2 ^ 22 → SFits w32 z → unsigned_abs (nearest z *ℤ (pos p -ℤ pos 134217728)) ≤ 2 ^ 26
turns_small p z large less fits = scaled-bound (nearest z) (pos p -ℤ pos 134217728) 16 4194304 (nearest_small z fits) (omega (arith, ints, large, less))

-- the sum that has the remainder
abbrev pub sum_of : ℕ → ℤ → ℤ
sum_of p z = z +ℤ ((pos 1 -ℤ nearest z) *ℤ pos p)

parts_are : (p : ℕ) (z t : ℤ) → z +ℤ ((pos 1 -ℤ t) *ℤ pos p) ≡ ((z -ℤ (pos 134217728 *ℤ t)) -ℤ (t *ℤ (pos p -ℤ pos 134217728))) +ℤ pos p
parts_are p z t =
    let d : ℤ = pos p -ℤ pos 134217728 in
    let whole : pos p ≡ d +ℤ pos 134217728 = omega (arith, ints) in
    let times = ap (λ v. t *ℤ v) whole in
    let parts = mul-add t d (pos 134217728) in
    let turned = *ℤ_comm t (pos 134217728) in
    omega (arith, ints, add-mul (pos 1) (neg_ℤ t) (pos p), neg-mul t (pos p), one-times (pos p))

range_parts : (p : ℕ) (r m : ℤ) → 2 ^ 27 < p → pos (unsigned_abs (r +ℤ pos 67108864)) ≡ r +ℤ pos 67108864 → unsigned_abs (r +ℤ pos 67108864) < 2 ^ 27 → unsigned_abs m ≤ 2 ^ 26
    → (pos (unsigned_abs ((r -ℤ m) +ℤ pos p)) ≡ (r -ℤ m) +ℤ pos p) × (unsigned_abs ((r -ℤ m) +ℤ pos p) < 2 * p)
range_parts p r m large above below small = (omega (arith, ints, large, above, below, small), omega (arith, ints, large, above, below, small))

range_of : (p : ℕ) (z : ℤ) → 2 ^ 27 < p → p < 2 ^ 27 + 2 ^ 22 → SFits w32 z → (pos (unsigned_abs (sum_of p z)) ≡ sum_of p z) × (unsigned_abs (sum_of p z) < 2 * p)
range_of p z large less fits =
    let rest = rest_small z in
    rw (parts_are p z (nearest z)) (range_parts p (z -ℤ (pos 134217728 *ℤ nearest z)) (nearest z *ℤ (pos p -ℤ pos 134217728)) large rest.0 rest.1 (turns_small p z large less fits))

sum_small : (p : ℕ) (z : ℤ) → 2 ^ 27 < p → p < 2 ^ 27 + 2 ^ 22 → SFits w32 z → unsigned_abs (sum_of p z) < 2 ^ 31
sum_small p z large less fits = let range = (range_of p z large less fits).1 in omega (arith, less, range)

-- what the code writes for it
abbrev pub code_turns : ℤ → ℤ
code_turns z = to_z w32 (of_z w32 (shr_z (to_z w32 (of_z w32 (to_z w32 (of_z w32 (shr_z (to_z w32 (of_z w32 z)) 67108864)) +ℤ pos 1))) 2))

abbrev pub code_sum : ℕ → ℤ → ℤ
code_sum p z = to_z w32 ((of_z w32 z + (of_z w32 (pos 1 -ℤ code_turns z) * p) % 4294967296) % 4294967296)

held-in-32 : (z : ℤ) → unsigned_abs z < 2 ^ 31 → to_z w32 (of_z w32 z) ≡ z
held-in-32 z h = to_z-of_z w32 z (fits_signed_from_abs w32 z h)

bits_less : (z : ℤ) → unsigned_abs z ≤ 2 ^ 31 → of_z w32 z < 2 ^ 32
bits_less (pos n) h = omega (arith, ints, h)
bits_less (negsuc n) h = omega (arith, ints, h)

turns_are : (z : ℤ) → SFits w32 z → code_turns z ≡ nearest z
turns_are z fits =
    let half = half_small z fits in
    let near = nearest_small z fits in
    let back : to_z w32 (of_z w32 z) ≡ z = to_z-of_z w32 z fits in
    let first : to_z w32 (of_z w32 (shr_z z 67108864)) ≡ shr_z z 67108864 = held-in-32 (shr_z z 67108864) (omega (arith, half)) in
    let second : to_z w32 (of_z w32 (shr_z z 67108864 +ℤ pos 1)) ≡ shr_z z 67108864 +ℤ pos 1 = held-in-32 (shr_z z 67108864 +ℤ pos 1) (omega (arith, ints, half)) in
    let third : to_z w32 (of_z w32 (nearest z)) ≡ nearest z = held-in-32 (nearest z) (omega (arith, near)) in
    rw (back, first, second, third) refl

-- a product and a sum of 32 bits
wrapped : (e z : ℤ) (p : ℕ) → unsigned_abs e < 2 ^ 31 → SFits w32 z → p < 2 ^ 31 → to_z w32 ((of_z w32 z + (of_z w32 e * p) % 4294967296) % 4294967296) ≡ int_wrap w32 (z +ℤ (e *ℤ pos p))
wrapped e z p small fits less =
    let n : ℕ = (of_z w32 e * p) % 4294967296 in
    let product : to_z w32 n ≡ int_wrap w32 (to_z w32 (of_z w32 e) *ℤ to_z w32 p) = wrapping_mul-bits w32 (of_z w32 e) p (bits_less e (omega (arith, small))) (omega (arith, less)) in
    let sum : to_z w32 ((of_z w32 z + n) % 4294967296) ≡ int_wrap w32 (to_z w32 (of_z w32 z) +ℤ to_z w32 n) = wrapping_add-bits w32 (of_z w32 z) n (bits_less z (omega (arith, ints, fits.sfits))) (omega arith) in
    let modulus : to_z w32 p ≡ pos p = to_z_pos w32 p less in
    sum ∙ rw (product, held-in-32 e small, to_z-of_z w32 z fits, modulus) (int_wrap-add_right w32 z (e *ℤ pos p))

code_sum_is : (p : ℕ) (z : ℤ) → 2 ^ 27 < p → p < 2 ^ 27 + 2 ^ 22 → SFits w32 z → code_sum p z ≡ sum_of p z
code_sum_is p z large less fits =
    let near = nearest_small z fits in
    rw (turns_are z fits)
    (wrapped (pos 1 -ℤ nearest z) z p (omega (arith, ints, near)) fits (omega (arith, less)) ∙ int_wrap_fits w32 (sum_of p z) (fits_signed_from_abs w32 (sum_of p z) (sum_small p z large less fits)))

natural_fits : (z : ℤ) (n : ℕ) → z ≡ pos n → n < 2 ^ 31 → T (non_neg z) × Fits w32 (unsigned_abs z)
natural_fits z n is less = rw is (search rules, search rules)

pub cast_fits : (p : ℕ) (z : ℤ) → 2 ^ 27 < p → p < 2 ^ 27 + 2 ^ 22 → SFits w32 z → T (non_neg (code_sum p z)) × Fits w32 (unsigned_abs (code_sum p z))
cast_fits p z large less fits =
    natural_fits (code_sum p z) (unsigned_abs (sum_of p z)) (code_sum_is p z large less fits ∙ sym (range_of p z large less fits).0) (sum_small p z large less fits)

pub sum_less : (p : ℕ) (z : ℤ) → 2 ^ 27 < p → p < 2 ^ 27 + 2 ^ 22 → SFits w32 z → unsigned_abs (code_sum p z) < 2 * p
sum_less p z large less fits = rw (code_sum_is p z large less fits) (range_of p z large less fits).1

pub sum_same : (p : ℕ) (z : ℤ) → 2 ^ 27 < p → p < 2 ^ 27 + 2 ^ 22 → SFits w32 z → Same (pos p) (pos (unsigned_abs (code_sum p z))) z
sum_same p z large less fits =
    let turned = *ℤ_comm (pos 1 -ℤ nearest z) (pos p) in
    rw (code_sum_is p z large less fits, (range_of p z large less fits).0) (pos 1 -ℤ nearest z, ap (λ v. z +ℤ v) turned)
