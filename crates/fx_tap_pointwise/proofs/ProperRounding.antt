-- A sample times a proper fraction, rounded by the two parts of a factor of 2^62.
use Rattle.std.proofs.Common.{◌≡◌, ℕ, ℤ, pos, negsuc, neg_ℤ, suc, ◌+◌, ◌*◌, ◌/◌, ◌%◌, ◌^◌, ◌<◌, ◌≤◌, ◌+ℤ◌, ◌*ℤ◌, ◌≤ℤ◌, ◌<ℤ◌, ◌∙◌, FitsSigned, false, arith, sym, to_z, of_z, unsigned_abs}
use Rattle.std.specs.Int.{w32, w64}
use Rattle.std.proofs.Math.IntN.{*ℤ_comm}
use Rattle.std.proofs.Math.Nat.{div-mul-le_self, lt-div-mul-add, lt_of_mul-lt-mul_right, mod-eq_of_lt, mul-le-mul}
use Rattle.std.proofs.lemmas.Bool.Decides.{nat_tests}
use Rattle.std.proofs.lemmas.Int.{fits_signed_from_abs, ints, to_z-of_z, to_z_pos}
use lib.Signed.{shr_z}
use Rattle.fx_fixed.specs.Rounding.{clipping, nearest, nearest_natural}
use Rattle.fx_fixed.proofs.Signs.{nearest-neg}
use Rattle.fx_fixed.proofs.AtMostWhole.{not-clipped}
use Rattle.fx_tap_pointwise.specs.Fractions.{IsProperFraction}
use Rattle.fx_tap_sums.proofs.SmallSums.{plain-product-64}
use Rattle.fx_tap_sums.proofs.Magnitudes.{scaled-bound}

-- a shift by 31 places rounds down
floors : (z : ℤ) → ((pos (2 ^ 31) *ℤ shr_z z (2 ^ 31)) ≤ℤ z) × (z <ℤ ((pos (2 ^ 31) *ℤ shr_z z (2 ^ 31)) +ℤ pos (2 ^ 31)))
floors (pos a) = (omega (arith, ints), omega (arith, ints))
floors (negsuc a) = (omega (arith, ints), omega (arith, ints))

-- k is the whole number nearest to m times the factor over 2^62: from the half on, and above it where m is not 0
record IsNear (k m factor : ℕ) : Type 0 where
  minimum : 2 ^ 62 * k ≤ m * factor + 2 ^ 61
  strict : 0 < m → 2 ^ 62 * k < m * factor + 2 ^ 61
  maximum : m * factor + 2 ^ 61 < 2 ^ 62 * (k + 1)

-- it is the whole number nearest to m times the fraction that the factor is slightly above
near-by : (n d f m k : ℕ) → 0 < d → d < 2 ^ 30 → m ≤ 2 ^ 31 → 2 ^ 62 * n < f * d → f * d ≤ 2 ^ 62 * n + d → k * (2 * d) ≤ 2 * (n * m) + d → 2 * (n * m) + d < k * (2 * d) + 2 * d → IsNear k m f
near-by n d f m k some bound small above near down up =
    let more : m * (2 ^ 62 * n + 1) ≤ m * (f * d) = mul-le-mul (omega arith) (omega (arith, above)) in
    let less : m * (f * d) ≤ m * (2 ^ 62 * n + d) = mul-le-mul (omega arith) near in
    let over : m * d ≤ 2 ^ 31 * d = mul-le-mul small (omega arith) in
    let minimum : 2 ^ 62 * k < m * f + 2 ^ 61 + 1 = lt_of_mul-lt-mul_right d (omega (arith, more, down, some)) in
    let maximum : m * f + 2 ^ 61 < 2 ^ 62 * (k + 1) = lt_of_mul-lt-mul_right d (omega (arith, less, up, over, bound)) in
    record {
      minimum = omega (arith, minimum);
      strict = λ positive. lt_of_mul-lt-mul_right d (omega (arith, more, down, some, positive));
      maximum = maximum;
    }

near-natural : (n d f m : ℕ) → 0 < d → d < 2 ^ 30 → m ≤ 2 ^ 31 → 2 ^ 62 * n < f * d → f * d ≤ 2 ^ 62 * n + d → IsNear (nearest_natural (n * m) d) m f
near-natural n d f m some bound small above near =
    near-by n d f m (nearest_natural (n * m) d) some bound small above near (div-mul-le_self (2 * (n * m) + d) (2 * d)) (lt-div-mul-add (omega (arith, some)))

-- the sums and the shifts of the code
abbrev by_parts : ℕ → ℕ → ℤ → ℤ
by_parts top bottom x = shr_z (((x *ℤ pos top) +ℤ shr_z (x *ℤ pos bottom) (2 ^ 31)) +ℤ pos (2 ^ 30)) (2 ^ 31)

parts-above : (top bottom m k : ℕ) → IsNear k m (top * 2 ^ 31 + bottom) → by_parts top bottom (pos m) ≡ pos k
parts-above top bottom m k is =
    let low = floors (pos m *ℤ pos bottom) in
    let all = floors (((pos m *ℤ pos top) +ℤ shr_z (pos m *ℤ pos bottom) (2 ^ 31)) +ℤ pos (2 ^ 30)) in
    let whole : m * (top * 2 ^ 31 + bottom) ≡ 2 ^ 31 * (m * top) + m * bottom = omega arith in
    omega (arith, ints, low.0, low.1, all.0, all.1, is.minimum, is.maximum, whole)

parts-below : (top bottom m k : ℕ) → IsNear k (suc m) (top * 2 ^ 31 + bottom) → by_parts top bottom (negsuc m) ≡ neg_ℤ (pos k)
parts-below top bottom m k is =
    let low = floors (negsuc m *ℤ pos bottom) in
    let all = floors (((negsuc m *ℤ pos top) +ℤ shr_z (negsuc m *ℤ pos bottom) (2 ^ 31)) +ℤ pos (2 ^ 30)) in
    let whole : suc m * (top * 2 ^ 31 + bottom) ≡ 2 ^ 31 * (suc m * top) + suc m * bottom = omega arith in
    let strict = is.strict (omega arith) in
    omega (arith, ints, low.0, low.1, all.0, all.1, strict, is.maximum, whole)

-- they round the exact product
proper-rounds : (n d top bottom : ℕ) (x : ℤ) → 0 < d → d < 2 ^ 30 → unsigned_abs x ≤ 2 ^ 31 → 2 ^ 62 * n < (top * 2 ^ 31 + bottom) * d → (top * 2 ^ 31 + bottom) * d ≤ 2 ^ 62 * n + d → by_parts top bottom x ≡ nearest (pos n *ℤ x) d
proper-rounds n d top bottom (pos m) some bound small above near = parts-above top bottom m (nearest_natural (n * m) d) (near-natural n d (top * 2 ^ 31 + bottom) m some bound small above near)
proper-rounds n d top bottom (negsuc m) some bound small above near =
    parts-below top bottom m (nearest_natural (n * suc m) d) (near-natural n d (top * 2 ^ 31 + bottom) (suc m) some bound small above near)
    ∙ sym (nearest-neg (n * suc m) d some)

proper-nearest : (n d : ℕ) (high low x : ℤ) (is : IsProperFraction n d high low) → unsigned_abs x ≤ 2 ^ 31 → by_parts is.top is.bottom x ≡ nearest (pos n *ℤ x) d
proper-nearest n d high low x is small = proper-rounds n d is.top is.bottom x (omega (arith, is.below)) is.bound small is.above is.near

-- ---- what the code computes fits 64 bits

shifted-bound : (z : ℤ) → unsigned_abs z ≤ 2 ^ 62 + 2 ^ 32 → unsigned_abs (shr_z z (2 ^ 31)) ≤ 2 ^ 31 + 2
shifted-bound (pos a) bound = omega (arith, bound)
shifted-bound (negsuc a) bound = omega (arith, bound)

both-bound : (p q : ℤ) → unsigned_abs p ≤ 2 ^ 62 → unsigned_abs q ≤ 2 ^ 62 → unsigned_abs (p +ℤ shr_z q (2 ^ 31)) ≤ 2 ^ 62 + 2 ^ 31 + 2
both-bound p q high low =
    let shifted = shifted-bound q (omega (arith, low)) in
    omega (arith, ints, high, shifted)

fits-64 : (z : ℤ) → unsigned_abs z ≤ 2 ^ 62 + 2 ^ 32 → FitsSigned w64 z
fits-64 z bound = fits_signed_from_abs w64 z (omega (arith, bound))

held : (z : ℤ) → unsigned_abs z ≤ 2 ^ 62 + 2 ^ 32 → to_z w64 (of_z w64 z) ≡ z
held z bound = to_z-of_z w64 z (fits-64 z bound)

held-shift : (q : ℤ) → unsigned_abs q ≤ 2 ^ 62 → to_z w64 (of_z w64 (shr_z q (2 ^ 31))) ≡ shr_z q (2 ^ 31)
held-shift q low =
    let shifted = shifted-bound q (omega (arith, low)) in
    held (shr_z q (2 ^ 31)) (omega (arith, shifted))

half-bound : (z : ℤ) → unsigned_abs z ≤ 2 ^ 62 + 2 ^ 31 + 2 → unsigned_abs (z +ℤ pos (2 ^ 30)) ≤ 2 ^ 62 + 2 ^ 32
half-bound z bound = omega (arith, ints, bound)

parts-fit : (p q : ℤ) → unsigned_abs p ≤ 2 ^ 62 → unsigned_abs q ≤ 2 ^ 62 → FitsSigned w64 (p +ℤ to_z w64 (of_z w64 (shr_z q (2 ^ 31))))
parts-fit p q high low =
    let both = both-bound p q high low in
    rw (held-shift q low) (fits-64 (p +ℤ shr_z q (2 ^ 31)) (omega (arith, both)))

held-parts : (p q : ℤ) → unsigned_abs p ≤ 2 ^ 62 → unsigned_abs q ≤ 2 ^ 62 → to_z w64 (of_z w64 (p +ℤ to_z w64 (of_z w64 (shr_z q (2 ^ 31))))) ≡ p +ℤ shr_z q (2 ^ 31)
held-parts p q high low =
    let both = both-bound p q high low in
    rw (held-shift q low) (held (p +ℤ shr_z q (2 ^ 31)) (omega (arith, both)))

half-fits : (p q : ℤ) → unsigned_abs p ≤ 2 ^ 62 → unsigned_abs q ≤ 2 ^ 62 → FitsSigned w64 (to_z w64 (of_z w64 (p +ℤ to_z w64 (of_z w64 (shr_z q (2 ^ 31))))) +ℤ pos (2 ^ 30))
half-fits p q high low = rw (held-parts p q high low) (fits-64 ((p +ℤ shr_z q (2 ^ 31)) +ℤ pos (2 ^ 30)) (half-bound (p +ℤ shr_z q (2 ^ 31)) (both-bound p q high low)))

parts-held : (p q : ℤ) → unsigned_abs p ≤ 2 ^ 62 → unsigned_abs q ≤ 2 ^ 62
    → to_z w64 (of_z w64 (shr_z (to_z w64 (of_z w64 (to_z w64 (of_z w64 (p +ℤ to_z w64 (of_z w64 (shr_z q (2 ^ 31))))) +ℤ pos (2 ^ 30)))) (2 ^ 31))) ≡ shr_z ((p +ℤ shr_z q (2 ^ 31)) +ℤ pos (2 ^ 30)) (2 ^ 31)
parts-held p q high low =
    let bound = half-bound (p +ℤ shr_z q (2 ^ 31)) (both-bound p q high low) in
    let shifted = shifted-bound ((p +ℤ shr_z q (2 ^ 31)) +ℤ pos (2 ^ 30)) bound in
    rw (held-parts p q high low, held ((p +ℤ shr_z q (2 ^ 31)) +ℤ pos (2 ^ 30)) bound) (held (shr_z ((p +ℤ shr_z q (2 ^ 31)) +ℤ pos (2 ^ 30)) (2 ^ 31)) (omega (arith, shifted)))

-- ---- the nearest whole number is a sample

in-range : (z : ℤ) → (clipping z).1 ≡ false → (neg_ℤ (pos (2 ^ 31)) ≤ℤ z) × (z <ℤ pos (2 ^ 31))
in-range (pos n) e =
    let bound : n < 2 ^ 31 = grind (arith, nat_tests) in
    (omega (arith, ints), omega (arith, ints))
in-range (negsuc n) e =
    let bound : n < 2 ^ 31 = grind (arith, nat_tests) in
    (omega (arith, ints), omega (arith, ints))

pub nearest-range : (n d : ℕ) (x : ℤ) → n < d → FitsSigned w32 x → (neg_ℤ (pos (2 ^ 31)) ≤ℤ nearest (pos n *ℤ x) d) × (nearest (pos n *ℤ x) d <ℤ pos (2 ^ 31))
nearest-range n d x below fits =
    in-range (nearest (pos n *ℤ x) d) (rw (*ℤ_comm (pos n) x) (not-clipped x n d (omega (arith, below)) (omega (arith, below)) fits))

-- ---- the call that rounds

module _ (n d : ℕ) (h l x s f g : ℤ) (is : IsProperFraction n d h l) (sample : s ≡ x) (high : f ≡ h) (low : g ≡ l) (top : FitsSigned w32 h) (fits : FitsSigned w32 x) where
  small : unsigned_abs x ≤ 2 ^ 31
  small = omega (arith, ints, fits)

  top-bound : unsigned_abs (pos is.top) ≤ 2 ^ 31
  top-bound = let bound : unsigned_abs h ≤ 2 ^ 31 = omega (arith, ints, top) in rw is.high_is at bound

  bottom-bound : unsigned_abs (pos is.bottom) ≤ 2 ^ 31
  bottom-bound = omega (arith, is.bottom_bound)

  above : to_z w64 (of_z w64 (to_z w64 (of_z w64 s) *ℤ to_z w64 (of_z w64 f))) ≡ x *ℤ pos is.top
  above = plain-product-64 x (pos is.top) s f sample (high ∙ is.high_is) small top-bound

  under : to_z w64 (of_z w64 (to_z w64 (of_z w64 s) *ℤ to_z w64 (of_z w64 g))) ≡ x *ℤ pos is.bottom
  under = plain-product-64 x (pos is.bottom) s g sample (low ∙ is.low_is) small bottom-bound

  above-bound : unsigned_abs (x *ℤ pos is.top) ≤ 2 ^ 62
  above-bound = scaled-bound x (pos is.top) (2 ^ 31) (2 ^ 31) small top-bound

  under-bound : unsigned_abs (x *ℤ pos is.bottom) ≤ 2 ^ 62
  under-bound = scaled-bound x (pos is.bottom) (2 ^ 31) (2 ^ 31) small bottom-bound

  -- the sum of both products, and the same with a half
  pub sum-fits : FitsSigned w64 (to_z w64 (of_z w64 (to_z w64 (of_z w64 s) *ℤ to_z w64 (of_z w64 f))) +ℤ to_z w64 (of_z w64 (shr_z (to_z w64 (of_z w64 (to_z w64 (of_z w64 s) *ℤ to_z w64 (of_z w64 g)))) (2 ^ 31))))
  sum-fits = rw (above, under) (parts-fit (x *ℤ pos is.top) (x *ℤ pos is.bottom) above-bound under-bound)

  pub sum-fits_with_half : FitsSigned w64 (to_z w64 (of_z w64 (to_z w64 (of_z w64 (to_z w64 (of_z w64 s) *ℤ to_z w64 (of_z w64 f))) +ℤ to_z w64 (of_z w64 (shr_z (to_z w64 (of_z w64 (to_z w64 (of_z w64 s) *ℤ to_z w64 (of_z w64 g)))) (2 ^ 31))))) +ℤ pos (2 ^ 30))
  sum-fits_with_half = rw (above, under) (half-fits (x *ℤ pos is.top) (x *ℤ pos is.bottom) above-bound under-bound)

  -- what it gives
  pub code-nearest : to_z w64 (of_z w64 (shr_z (to_z w64 (of_z w64 (to_z w64 (of_z w64 (to_z w64 (of_z w64 (to_z w64 (of_z w64 s) *ℤ to_z w64 (of_z w64 f))) +ℤ to_z w64 (of_z w64 (shr_z (to_z w64 (of_z w64 (to_z w64 (of_z w64 s) *ℤ to_z w64 (of_z w64 g)))) (2 ^ 31))))) +ℤ pos (2 ^ 30)))) (2 ^ 31))) ≡ nearest (pos n *ℤ x) d
  code-nearest = rw (above, under) (parts-held (x *ℤ pos is.top) (x *ℤ pos is.bottom) above-bound under-bound ∙ proper-nearest n d h l x is small)

-- ---- the preparation

-- its power fits 128 bits
power-is : (n : ℕ) → n < 2 ^ 30 → n * 2 ^ 62 % 2 ^ 128 ≡ n * 2 ^ 62
power-is n bound = mod-eq_of_lt (omega (arith, bound))

factor-bound : (n d q : ℕ) → n < d → d < 2 ^ 30 → q * d ≤ n * 2 ^ 62 → q + 1 < 2 ^ 62
factor-bound n d q below bound whole = lt_of_mul-lt-mul_right d (omega (arith, below, bound, whole))

factor-proper : (n d f : ℕ) → n < d → d < 2 ^ 30 → f < 2 ^ 62 → 2 ^ 62 * n < f * d → f * d ≤ 2 ^ 62 * n + d → IsProperFraction n d (to_z w32 (f / 2 ^ 31)) (to_z w32 (f % 2 ^ 31))
factor-proper n d f below bound small above near =
    let whole : f / 2 ^ 31 * 2 ^ 31 + f % 2 ^ 31 ≡ f = omega arith in
    record {
      below = below;
      bound = bound;
      top = f / 2 ^ 31;
      bottom = f % 2 ^ 31;
      high_is = to_z_pos w32 (f / 2 ^ 31) (omega (arith, small));
      low_is = to_z_pos w32 (f % 2 ^ 31) (omega arith);
      bottom_bound = omega arith;
      above = rw whole above;
      near = rw whole near;
    }

pub prepared : (n d : ℕ) → n < d → d < 2 ^ 30 → IsProperFraction n d (to_z w32 ((n * 2 ^ 62 % 2 ^ 128 / d + 1) / 2 ^ 31)) (to_z w32 ((n * 2 ^ 62 % 2 ^ 128 / d + 1) % 2 ^ 31))
prepared n d below bound =
    let rest : n * 2 ^ 62 < n * 2 ^ 62 / d * d + d = lt-div-mul-add (omega (arith, below)) in
    let whole : n * 2 ^ 62 / d * d ≤ n * 2 ^ 62 = div-mul-le_self (n * 2 ^ 62) d in
    rw (power-is n (omega (arith, below, bound)))
    (factor-proper n d (n * 2 ^ 62 / d + 1) below bound (factor-bound n d (n * 2 ^ 62 / d) below bound whole) (omega (arith, rest)) (omega (arith, whole)))
