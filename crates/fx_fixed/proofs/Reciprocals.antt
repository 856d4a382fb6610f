-- A rounding over a prepared denominator, and the preparation.
use Rattle.std.proofs.Common.{◌≡◌, ℕ, ℤ, pos, negsuc, neg_ℤ, suc, zero, ◌+◌, ◌-◌, ◌*◌, ◌/◌, ◌%◌, ◌^◌, ◌<◌, ◌≤◌, ◌+ℤ◌, ◌*ℤ◌, ◌∙◌, ap, sym, refl, arith, unsigned_abs, to_z, of_z, w64, FitsSigned, inl, inr}
use Rattle.std.proofs.Math.Nat.{div-div-eq-div-mul, div-eq_of_lt, div-eq_of_lt-le, div-lt_iff_lt-mul, div-mul-le_self, lt-div-mul-add, lt_of_mul-lt-mul_right, mod-eq_of_lt, mul-le-mul, pow-le-pow_right, pow-suc}
use Rattle.std.proofs.Math.Pow.{pow-lt}
use Rattle.std.proofs.lemmas.Nat.{pow-add}
use Rattle.std.proofs.lemmas.Bool.{cases_lt}
use Rattle.std.proofs.lemmas.Int.{fits_signed_from_abs, ints, to_z-of_z, to_z_pos, unsigned_abs-mul}
use lib.Signed.{mag_shr, shr_z}
use mir.Syntax.{w128}
use Rattle.fx_fixed.specs.Rounding.{nearest, nearest_natural}
use Rattle.fx_fixed.specs.Reciprocal.{IsPreparedDenominator}

-- ---- the number that is nearest

-- k is the integer nearest to w / (2 * half), a multiple of a: from its lower half on, and above that where a is not 0
record IsNear (a k w half : ℕ) : Type 0 where
  minimum : 2 * half * k ≤ w + half
  strict : 0 < a → 2 * half * k < w + half
  maximum : w + half < 2 * half * (k + 1)

-- it is the integer nearest to a / d where w is slightly above 2 * half * a / d
near-by : (a d e f h k w : ℕ) → 0 < d → 2 * h + 1 ≤ f * e → f * e ≤ 2 * h + e → a * e < h → w * d ≡ a * (f * e) → k * (2 * d) ≤ 2 * a + d → 2 * a + d < k * (2 * d) + 2 * d → IsNear a k w h
near-by a d e f h k w some above near small is down up =
    let more : a * (2 * h + 1) ≤ a * (f * e) = mul-le-mul (omega arith) above in
    let less : a * (f * e) ≤ a * (2 * h + e) = mul-le-mul (omega arith) near in
    let low : k * (2 * d) * h ≤ (2 * a + d) * h = mul-le-mul down (omega arith) in
    let high : (2 * a + d + 1) * h ≤ (k * (2 * d) + 2 * d) * h = mul-le-mul (omega (arith, up)) (omega arith) in
    let minimum : 2 * h * k < w + h + 1 = lt_of_mul-lt-mul_right d (omega (arith, more, low, is, some)) in
    record {
      minimum = omega (arith, minimum);
      strict = λ positive. lt_of_mul-lt-mul_right d (omega (arith, more, low, is, positive));
      maximum = lt_of_mul-lt-mul_right d (omega (arith, less, high, is, small));
    }

near-prepared : (v sh a : ℕ) (m f h : ℤ) (is : IsPreparedDenominator v m f h sh) → a ≤ 2 ^ 61 → IsNear a (nearest_natural a v) (a * is.times * is.over) (2 ^ 63 * 2 ^ sh)
near-prepared v sh a m f h is bound =
    let bounded : a * (is.times * v) ≤ 2 ^ 61 * (is.times * v) = mul-le-mul bound (omega arith) in
    near-by a v (is.times * v) is.over (2 ^ 63 * 2 ^ sh) (nearest_natural a v) (a * is.times * is.over) is.positive (omega (arith, is.above)) (omega (arith, is.near)) (omega (arith, bounded, is.bound)) (omega arith) (div-mul-le_self (2 * a + v) (2 * v)) (lt-div-mul-add (omega (arith, is.positive)))

-- ---- sums and shifts

-- two shifts are one
shifted-twice : (z : ℤ) (p q : ℕ) → shr_z (shr_z z p) q ≡ shr_z z (p * q)
shifted-twice (pos a) p q = ap pos (div-div-eq-div-mul a p q)
shifted-twice (negsuc a) p q = ap negsuc (div-div-eq-div-mul a p q)

-- the half added and then shifted, of a number from 0 on
round-above : (a k w h : ℕ) → IsNear a k w h → shr_z (pos w +ℤ pos h) (2 * h) ≡ pos k
round-above a k w h is = ap pos (div-eq_of_lt-le (2 * h) (omega (arith, is.minimum)) (omega (arith, is.maximum)))

-- and of a number below 0
round-below : (a k w h : ℕ) → 0 < a → IsNear a k w h → shr_z (neg_ℤ (pos w) +ℤ pos h) (2 * h) ≡ neg_ℤ (pos k)
round-below a zero w h some is =
    let under : w < h = omega (arith, is.maximum) in
    let sum : neg_ℤ (pos w) +ℤ pos h ≡ pos (h - w) = omega (arith, ints) in
    let none : (h - w) / (2 * h) ≡ 0 = div-eq_of_lt (omega (arith, under)) in
    rw sum (ap pos none)
round-below a (suc k) w h some is =
    let minimum = is.strict some in
    let over : h < w = omega (arith, minimum) in
    let sum : neg_ℤ (pos w) +ℤ pos h ≡ negsuc (w - h - 1) = omega (arith, ints) in
    let whole : (w - h - 1) / (2 * h) ≡ k = div-eq_of_lt-le (2 * h) (omega (arith, minimum)) (omega (arith, is.maximum)) in
    rw sum (ap negsuc whole)

negated-product : (n f : ℕ) → neg_ℤ (pos n) *ℤ pos f ≡ neg_ℤ (pos (n * f))
negated-product zero f = let none : 0 * f ≡ 0 = omega arith in rw none refl
negated-product (suc n) f = refl

rounds : (v sh : ℕ) (s m f h : ℤ) (is : IsPreparedDenominator v m f h sh) → unsigned_abs s ≤ 2 ^ 61 → shr_z (((s *ℤ pos is.times) *ℤ pos is.over) +ℤ pos (2 ^ 63 * 2 ^ sh)) (2 * (2 ^ 63 * 2 ^ sh)) ≡ nearest s v
rounds v sh (pos a) m f h is bound = round-above a (nearest_natural a v) (a * is.times * is.over) (2 ^ 63 * 2 ^ sh) (near-prepared v sh a m f h is bound)
rounds v sh (negsuc a) m f h is bound =
    rw (negated-product (suc a * is.times) is.over)
    (round-below (suc a) (nearest_natural (suc a) v) (suc a * is.times * is.over) (2 ^ 63 * 2 ^ sh) (omega arith) (near-prepared v sh (suc a) m f h is bound))

-- ---- what the code computes fits its types

held-128 : (z : ℤ) → unsigned_abs z ≤ 2 ^ 126 → to_z w128 (of_z w128 z) ≡ z
held-128 z bound = to_z-of_z w128 z (fits_signed_from_abs w128 z (omega (arith, bound)))

held-64 : (z : ℤ) → unsigned_abs z ≤ 2 ^ 62 → to_z w64 (of_z w64 z) ≡ z
held-64 z bound = to_z-of_z w64 z (fits_signed_from_abs w64 z (omega (arith, bound)))

high-bound : (z : ℤ) → unsigned_abs z ≤ 2 ^ 126 → unsigned_abs (shr_z z (2 ^ 64)) ≤ 2 ^ 62
high-bound (pos a) bound = omega (arith, bound)
high-bound (negsuc a) bound = omega (arith, bound)

smaller : (z : ℤ) (m : ℕ) → unsigned_abs (shr_z z m) ≤ unsigned_abs z
smaller (pos a) m = mag_shr (pos a) m
smaller (negsuc a) m =
    let less : a / m ≤ a = mag_shr (negsuc a) m in
    omega (arith, less)

module _ (v sh : ℕ) (s x y m f h : ℤ) (is : IsPreparedDenominator v m f h sh) (scaled : x ≡ to_z w64 (of_z w64 (to_z w64 (of_z w64 s) *ℤ to_z w64 (of_z w64 m)))) (factor : y ≡ to_z w64 (of_z w64 f)) (bound : unsigned_abs s ≤ 2 ^ 61) where
  power : 2 ^ sh ≤ 2 ^ 61
  power = pow-le-pow_right (omega arith) is.shift_bound

  x-bound : unsigned_abs (s *ℤ pos is.times) ≤ 2 ^ 61 * 3
  x-bound = rw (unsigned_abs-mul s (pos is.times)) (mul-le-mul bound is.small)

  -- the sum times the multiplier, and the factor
  x-is : x ≡ s *ℤ pos is.times
  x-is =
      let fits : FitsSigned w64 (s *ℤ pos is.times) = fits_signed_from_abs w64 (s *ℤ pos is.times) (omega (arith, x-bound)) in
      rw (scaled, is.multiplier_is, held-64 s (omega (arith, bound)), held-64 (pos is.times) (omega (arith, is.small))) (to_z-of_z w64 (s *ℤ pos is.times) fits)

  y-is : y ≡ pos is.over
  y-is = rw (factor, is.factor_is) (to_z-of_z w64 (pos is.over) (fits_signed_from_abs w64 (pos is.over) (omega (arith, is.factor_bound))))

  product-bound : unsigned_abs ((s *ℤ pos is.times) *ℤ pos is.over) ≤ 2 ^ 61 * 3 * 2 ^ 63
  product-bound =
      let small : is.over ≤ 2 ^ 63 = omega (arith, is.factor_bound) in
      rw (unsigned_abs-mul (s *ℤ pos is.times) (pos is.over)) (mul-le-mul x-bound small)

  sum-bound : unsigned_abs (((s *ℤ pos is.times) *ℤ pos is.over) +ℤ pos (2 ^ 63 * 2 ^ sh)) ≤ 2 ^ 126
  sum-bound =
      let product = product-bound in
      let half : 2 ^ 63 * 2 ^ sh ≤ 2 ^ 124 = omega (arith, power) in
      omega (arith, ints, product, half)

  -- the product and the sum with the half, as 128 bits
  product-held : to_z w128 (of_z w128 (to_z w128 (of_z w128 x) *ℤ to_z w128 (of_z w128 y))) ≡ (s *ℤ pos is.times) *ℤ pos is.over
  product-held =
      rw (x-is, y-is, held-128 (s *ℤ pos is.times) (omega (arith, x-bound)), held-128 (pos is.over) (omega (arith, is.factor_bound)))
      (held-128 ((s *ℤ pos is.times) *ℤ pos is.over) (omega (arith, product-bound)))

  half-held : to_z w128 (of_z w128 h) ≡ pos (2 ^ 63 * 2 ^ sh)
  half-held = rw is.half_is (held-128 (pos (2 ^ 63 * 2 ^ sh)) (omega (arith, power)))

  pub sum-fits : FitsSigned w128 (to_z w128 (of_z w128 (to_z w128 (of_z w128 x) *ℤ to_z w128 (of_z w128 y))) +ℤ to_z w128 (of_z w128 h))
  sum-fits = rw (product-held, half-held) (fits_signed_from_abs w128 _ (omega (arith, sum-bound)))

  sum-held : to_z w128 (of_z w128 (to_z w128 (of_z w128 (to_z w128 (of_z w128 x) *ℤ to_z w128 (of_z w128 y))) +ℤ to_z w128 (of_z w128 h))) ≡ ((s *ℤ pos is.times) *ℤ pos is.over) +ℤ pos (2 ^ 63 * 2 ^ sh)
  sum-held = rw (product-held, half-held) (held-128 (((s *ℤ pos is.times) *ℤ pos is.over) +ℤ pos (2 ^ 63 * 2 ^ sh)) sum-bound)

  upper-bound : unsigned_abs (shr_z (((s *ℤ pos is.times) *ℤ pos is.over) +ℤ pos (2 ^ 63 * 2 ^ sh)) (2 ^ 64)) ≤ 2 ^ 62
  upper-bound = high-bound (((s *ℤ pos is.times) *ℤ pos is.over) +ℤ pos (2 ^ 63 * 2 ^ sh)) sum-bound

  -- the upper half of the sum
  upper-held : to_z w128 (of_z w128 (shr_z (to_z w128 (of_z w128 (to_z w128 (of_z w128 (to_z w128 (of_z w128 x) *ℤ to_z w128 (of_z w128 y))) +ℤ to_z w128 (of_z w128 h)))) (2 ^ 64)))
      ≡ shr_z (((s *ℤ pos is.times) *ℤ pos is.over) +ℤ pos (2 ^ 63 * 2 ^ sh)) (2 ^ 64)
  upper-held = rw sum-held (held-128 (shr_z (((s *ℤ pos is.times) *ℤ pos is.over) +ℤ pos (2 ^ 63 * 2 ^ sh)) (2 ^ 64)) (omega (arith, upper-bound)))

  pub upper-fits : FitsSigned w64 (to_z w128 (of_z w128 (shr_z (to_z w128 (of_z w128 (to_z w128 (of_z w128 (to_z w128 (of_z w128 x) *ℤ to_z w128 (of_z w128 y))) +ℤ to_z w128 (of_z w128 h)))) (2 ^ 64))))
  upper-fits = rw upper-held (fits_signed_from_abs w64 _ (omega (arith, upper-bound)))

  -- what the code gives
  pub code-nearest : to_z w64 (of_z w64 (shr_z (to_z w64 (of_z w64 (to_z w128 (of_z w128 (shr_z (to_z w128 (of_z w128 (to_z w128 (of_z w128 (to_z w128 (of_z w128 x) *ℤ to_z w128 (of_z w128 y))) +ℤ to_z w128 (of_z w128 h)))) (2 ^ 64)))))) (2 ^ sh))) ≡ nearest s v
  code-nearest =
      let whole : 2 ^ 64 * 2 ^ sh ≡ 2 * (2 ^ 63 * 2 ^ sh) = omega arith in
      let z : ℤ = ((s *ℤ pos is.times) *ℤ pos is.over) +ℤ pos (2 ^ 63 * 2 ^ sh) in
      let less = smaller (shr_z z (2 ^ 64)) (2 ^ sh) in
      let below : unsigned_abs (shr_z (shr_z z (2 ^ 64)) (2 ^ sh)) ≤ 2 ^ 62 = omega (arith, less, upper-bound) in
      let is-nearest : shr_z (shr_z z (2 ^ 64)) (2 ^ sh) ≡ nearest s v = shifted-twice z (2 ^ 64) (2 ^ sh) ∙ ap (λ n. shr_z z n) whole ∙ rounds v sh s m f h is bound in
      rw (upper-held, held-64 (shr_z z (2 ^ 64)) upper-bound, held-64 (shr_z (shr_z z (2 ^ 64)) (2 ^ sh)) below) is-nearest

-- ---- the preparation

-- a power of two that is at most 2^61
pub exponent-bound : (s v : ℕ) → 2 ^ s ≤ v → v ≤ 2 ^ 61 → s ≤ 61
exponent-bound s v under bound =
    let more : 61 < s → s ≤ 61 = λ h.
    let far : 62 ≤ s = omega (arith, h) in
    let power : 2 ^ 62 ≤ 2 ^ s = pow-le-pow_right (omega arith) far in
    absurd (omega (arith, power, under, bound)) in
    elim (cases_lt 61 s) [ inl h ↦ more h | inr h ↦ h ]

-- where a denominator is no power of two, it lies strictly between two of them
pub between : (v s : ℕ) → 1 ≤ v → v ≤ 2 ^ 61 → (v ≡ 1 * 2 ^ s % 2 ^ 64 → ⊥) → 2 ^ s ≤ v → v < 2 * 2 ^ s → (2 * 2 ^ (s - 1) < 1 * v) × (1 * v < 4 * 2 ^ (s - 1))
between v zero some small not-power under over = absurd (not-power (omega (arith, some, under, over)))
between v (suc s) some small not-power under over =
    let power : 2 ^ suc s ≡ 2 * 2 ^ s = omega (arith, pow-suc 2 s) in
    let one : suc s - 1 ≡ s = omega arith in
    let whole : 1 * 2 ^ suc s % 2 ^ 64 ≡ 2 ^ suc s = omega (arith, under, small) in
    let other : v ≡ 2 ^ suc s → ⊥ = λ e. not-power (e ∙ sym whole) in
    rw one (omega (arith, power, other, under), omega (arith, power, over))

-- the power fits 128 bits
pub power-is : (s : ℕ) → s < 64 → 1 * 2 ^ (64 + s) % 2 ^ 128 ≡ 2 ^ 64 * 2 ^ s
power-is s bound =
    let small : 2 ^ (64 + s) < 2 ^ 128 = pow-lt {j = 128} (omega (arith, bound)) in
    let one : 1 * 2 ^ (64 + s) ≡ 2 ^ (64 + s) = omega arith in
    rw one (mod-eq_of_lt small ∙ pow-add 2 64 s)

-- the factor of a denominator fits
pub factor-fits : (d t : ℕ) → t ≤ 2 ^ 61 → 2 * t < d → 2 ^ 64 * t / d + 1 < 2 ^ 63
factor-fits d t small above =
    let p : 2 ^ 64 * t < (2 ^ 63 - 1) * d = omega (arith, small, above) in
    let q : 2 ^ 64 * t / d < 2 ^ 63 - 1 = (div-lt_iff_lt-mul (omega (arith, above))).1 p in
    omega (arith, q)

pub prepared : (v times s : ℕ) → 1 ≤ v → times ≤ 3 → s ≤ 61 → 2 * 2 ^ s < times * v → times * v < 4 * 2 ^ s
    → IsPreparedDenominator v (to_z w64 times) (to_z w64 (2 ^ 64 * 2 ^ s / (times * v) + 1)) (to_z w128 (2 ^ 64 * 2 ^ s / 2)) s
prepared v times s some small bound above below =
    let power : 2 ^ s ≤ 2 ^ 61 = pow-le-pow_right (omega arith) bound in
    let fits = factor-fits (times * v) (2 ^ s) power above in
    let rest : 2 ^ 64 * 2 ^ s < 2 ^ 64 * 2 ^ s / (times * v) * (times * v) + times * v = lt-div-mul-add (omega (arith, above)) in
    let whole : 2 ^ 64 * 2 ^ s / (times * v) * (times * v) ≤ 2 ^ 64 * 2 ^ s = div-mul-le_self (2 ^ 64 * 2 ^ s) (times * v) in
    let half : 2 ^ 64 * 2 ^ s / 2 ≡ 2 ^ 63 * 2 ^ s = omega arith in
    record {
      times = times;
      over = 2 ^ 64 * 2 ^ s / (times * v) + 1;
      multiplier_is = to_z_pos w64 times (omega (arith, small));
      factor_is = to_z_pos w64 (2 ^ 64 * 2 ^ s / (times * v) + 1) (omega (arith, fits));
      half_is = rw half (to_z_pos w128 (2 ^ 63 * 2 ^ s) (omega (arith, power)));
      positive = omega (arith, some);
      small = small;
      shift_bound = bound;
      bound = below;
      factor_bound = fits;
      above = omega (arith, rest);
      near = omega (arith, whole);
    }
