-- Sums of samples times small weights, in 64 bits.
use Rattle.std.proofs.Common.{ℤ, ◌^◌, ◌<◌, ◌≤◌, ◌≡◌, ◌+ℤ◌, ◌*ℤ◌, refl, arith, to_z, of_z, FitsSigned, unsigned_abs, w64}
use Rattle.std.proofs.lemmas.Int.{fits_signed_from_abs, to_z-of_z}
use Rattle.fx_tap_sums.proofs.Magnitudes.{added-bound, scaled-bound}

-- it fits 64 bits
pub held-in-64 : (z : ℤ) → unsigned_abs z < 2 ^ 63 → to_z w64 (of_z w64 z) ≡ z
held-in-64 z h = to_z-of_z w64 z (fits_signed_from_abs w64 z h)

pub weighed-bound : (w x : ℤ) → unsigned_abs w ≤ 2 ^ 27 → unsigned_abs x ≤ 2 ^ 31 → unsigned_abs (w *ℤ x) ≤ 2 ^ 58
weighed-bound w x small sample = scaled-bound w x (2 ^ 27) (2 ^ 31) small sample

-- a product in 64 bits
pub plain-product : (w x f y : ℤ) → f ≡ w → y ≡ x → unsigned_abs w ≤ 2 ^ 27 → unsigned_abs x ≤ 2 ^ 31 → to_z w64 (of_z w64 f) *ℤ to_z w64 (of_z w64 y) ≡ w *ℤ x
plain-product w x f y e d small sample = rw (e, d, held-in-64 w (omega (arith, small)), held-in-64 x (omega (arith, sample))) refl

-- a small product added in 64 bits
pub product-added : (s w x f y : ℤ) → f ≡ w → y ≡ x → unsigned_abs w < 2 ^ 63 → unsigned_abs x < 2 ^ 63 → unsigned_abs (w *ℤ x) ≤ 2 ^ 58 → unsigned_abs s ≤ 2 ^ 62 →
    let z : ℤ = to_z w64 (of_z w64 s) +ℤ to_z w64 (of_z w64 (to_z w64 (of_z w64 f) *ℤ to_z w64 (of_z w64 y))) in FitsSigned w64 z × (to_z w64 (of_z w64 z) ≡ s +ℤ (w *ℤ x))
product-added s w x f y e d small sample product free =
    let maximum = added-bound s (w *ℤ x) _ _ free product in
    rw (e, d, held-in-64 s (omega (arith, free)), held-in-64 w small, held-in-64 x sample, held-in-64 (w *ℤ x) (omega (arith, product)))
    (fits_signed_from_abs w64 (s +ℤ (w *ℤ x)) (omega (arith, maximum)), held-in-64 (s +ℤ (w *ℤ x)) (omega (arith, maximum)))

-- the same for larger samples and smaller weights
pub wide-bound : (w x : ℤ) → unsigned_abs w ≤ 2 ^ 24 → unsigned_abs x ≤ 2 ^ 34 → unsigned_abs (w *ℤ x) ≤ 2 ^ 58
wide-bound w x small sample = scaled-bound w x (2 ^ 24) (2 ^ 34) small sample

-- a sum and a product in 64 bits
pub plain-added : (s p : ℤ) → unsigned_abs s ≤ 2 ^ 62 → unsigned_abs p ≤ 2 ^ 58 → (FitsSigned w64 (s +ℤ to_z w64 (of_z w64 p))) × (to_z w64 (of_z w64 (s +ℤ to_z w64 (of_z w64 p))) ≡ s +ℤ p)
plain-added s p free bound =
    let maximum = added-bound s p _ _ free bound in
    rw (held-in-64 p (omega (arith, bound))) (fits_signed_from_abs w64 (s +ℤ p) (omega (arith, maximum)), held-in-64 (s +ℤ p) (omega (arith, maximum)))

-- a product fits 64 bits
pub held-64 : (z : ℤ) → unsigned_abs z ≤ 2 ^ 62 → to_z w64 (of_z w64 z) ≡ z
held-64 z h = to_z-of_z w64 z (fits_signed_from_abs w64 z (omega (arith, h)))

pub plain-product-64 : (w x f y : ℤ) → f ≡ w → y ≡ x → unsigned_abs w ≤ 2 ^ 31 → unsigned_abs x ≤ 2 ^ 31
    → to_z w64 (of_z w64 (to_z w64 (of_z w64 f) *ℤ to_z w64 (of_z w64 y))) ≡ w *ℤ x
plain-product-64 w x f y e d small sample =
    let product = scaled-bound w x (2 ^ 31) (2 ^ 31) small sample in
    rw (e, d, held-64 w (omega (arith, small)), held-64 x (omega (arith, sample)), held-64 (w *ℤ x) (omega (arith, product))) refl

-- a sample and a wide sample added in 64 bits
pub wide-two : (a b f y : ℤ) → f ≡ a → y ≡ b → unsigned_abs a ≤ 2 ^ 31 → unsigned_abs b ≤ 2 ^ 34 → to_z w64 (of_z w64 f) +ℤ to_z w64 (of_z w64 y) ≡ a +ℤ b
wide-two a b f y e d m n = rw (e, d, held-in-64 a (omega arith), held-in-64 b (omega arith)) refl
