-- Common divisors of many products, and fractions reduced by them.
use Rattle.std.proofs.Common.{◌≡◌, ℕ, zero, suc, ◌+◌, ◌*◌, ◌%◌, ◌<◌, List, get_or, length, set, Bool, true, false, ap, ◌∙◌, refl, arith, ℤ, pos, negsuc, ◌*ℤ◌, nat_eq}
use Rattle.std.specs.Int.{IsGcd}
use Rattle.std.proofs.lemmas.Bool.Decides.{nat_tests}
use Rattle.std.proofs.lemmas.Grind.{get_or-set_at}
use Rattle.std.proofs.lemmas.List.{get_or-set_other}
use Rattle.std.proofs.lemmas.Nat.Gcd.{dvd_of_mod-eq-zero, dvd_trans, mod-eq-zero_of_dvd}
use Rattle.std.proofs.Math.Nat.{eq-zero_of_zero-dvd}
use Rattle.std.proofs.lemmas.Nat.{mul-lt}
use Rattle.fx_fixed.specs.Rounding.{clipping, nearest, rounding, signed}
use Rattle.fx_fixed.proofs.Shifting.{nearest_natural-cancel}
use Rattle.fx_fixed.proofs.Signs.{nearest-neg}

-- what divides the divisor divides what that divides
passed-on : (divisor product next n : ℕ) → IsGcd divisor product next → n % divisor ≡ 0 → n % next ≡ 0
passed-on divisor product next n common whole = mod-eq-zero_of_dvd next (dvd_trans next common.0 (dvd_of_mod-eq-zero divisor whole))

-- a divisor of what is not 0 is not 0
unchanged-positive : (divisor product next : ℕ) → 0 < divisor → IsGcd divisor product next → 0 < next
unchanged-positive divisor product zero positive common =
    let none : divisor ≡ 0 = eq-zero_of_zero-dvd common.0 in
    omega (arith, positive, none)
unchanged-positive divisor product (suc n) positive common = omega arith

at-place : (f : ℕ → ℕ) (divisor next product i k : ℕ) (b : Bool) → nat_eq k i ≡ b → IsGcd divisor product next → f i ≡ product → ((k : ℕ) → k < i → f k % divisor ≡ 0) → k < i + 1 → f k % next ≡ 0
at-place f divisor next product i k true t common is done l =
    let same : k ≡ i = grind (arith, nat_tests) in
    rw (same, is) (mod-eq-zero_of_dvd next common.1)
at-place f divisor next product i k false t common is done l =
    passed-on divisor product next (f k) common (done k (grind (arith, nat_tests)))

-- one product more is divided
pub record Divides (f : ℕ → ℕ) (all divisor i : ℕ) : Type 0 where
  pub positive : 0 < divisor
  pub whole : all % divisor ≡ 0
  pub products : (k : ℕ) → k < i → f k % divisor ≡ 0

pub divides-more : (f : ℕ → ℕ) (whole divisor next product i : ℕ) → 0 < divisor → whole % divisor ≡ 0 → ((k : ℕ) → k < i → f k % divisor ≡ 0) → IsGcd divisor product next → f i ≡ product → Divides f whole next (i + 1)
divides-more f whole divisor next product i positive even done common is = record {
  positive = unchanged-positive divisor product next positive common;
  whole = passed-on divisor product next whole common even;
  products = λ k l. at-place f divisor next product i k (nat_eq k i) refl common is done l;
}

-- a common factor above and below is no part of a fraction
pub nearest-reduced : (by q : ℕ) (s : ℤ) → 0 < by → 0 < q → nearest (pos by *ℤ s) (by * q) ≡ nearest s q
nearest-reduced by q (pos n) positive some =
    let above : by * n ≡ n * by = omega arith in
    let below : by * q ≡ q * by = omega arith in
    rw (above, below) (ap pos (nearest_natural-cancel n q by positive))
nearest-reduced by q (negsuc n) positive some =
    let whole : 0 < by * q = mul-lt 0 0 by q positive some in
    let above : by * suc n ≡ suc n * by = omega arith in
    let below : by * q ≡ q * by = omega arith in
    nearest-neg (by * suc n) (by * q) whole ∙ rw (above, below) (ap (signed true) (nearest_natural-cancel (suc n) q by positive))

pub rounding-reduced : (by q : ℕ) (s : ℤ) → 0 < by → 0 < q → rounding (pos by *ℤ s) (by * q) ≡ rounding s q
rounding-reduced by q s positive some = ap clipping (nearest-reduced by q s positive some)

-- one weight more
above-at : (by gain : ℤ) (coefficients weights : List ℤ) (i k : ℕ) (weight : ℤ) (b : Bool) → nat_eq k i ≡ b → i < length weights → by *ℤ weight ≡ gain *ℤ get_or coefficients i (pos 0)
    → ((k : ℕ) → k < i → by *ℤ get_or weights k (pos 0) ≡ gain *ℤ get_or coefficients k (pos 0)) → k < i + 1 → by *ℤ get_or (set weights i weight) k (pos 0) ≡ gain *ℤ get_or coefficients k (pos 0)
above-at by gain coefficients weights i k weight true t h e done l =
    let same : k ≡ i = grind (arith, nat_tests) in
    rw (get_or-set_at weights i k weight (pos 0) same, same) e
above-at by gain coefficients weights i k weight false t h e done l =
    let other : (k ≡ i → ⊥) = grind (arith, nat_tests) in
    rw (get_or-set_other weights i k weight (pos 0) other) (done k (omega arith))

pub above-more : (by gain : ℤ) (coefficients weights : List ℤ) (i : ℕ) (weight : ℤ) → i < length weights → by *ℤ weight ≡ gain *ℤ get_or coefficients i (pos 0)
    → ((k : ℕ) → k < i → by *ℤ get_or weights k (pos 0) ≡ gain *ℤ get_or coefficients k (pos 0)) → (k : ℕ) → k < i + 1 → by *ℤ get_or (set weights i weight) k (pos 0) ≡ gain *ℤ get_or coefficients k (pos 0)
above-more by gain coefficients weights i weight h e done k l = above-at by gain coefficients weights i k weight (nat_eq k i) refl h e done l
