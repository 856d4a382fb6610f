-- How large a product and a sum of products may be.
use Rattle.std.proofs.Common.{◌≡◌, ℕ, ◌+◌, ◌*◌, ◌<◌, ◌≤◌, ◌^◌, arith, ℤ, pos, negsuc, neg_ℤ, ◌*ℤ◌, ◌+ℤ◌, ◌≤ℤ◌, refl, List, length, drop, get_or, FitsSigned, unsigned_abs}
use Rattle.std.specs.Int.{w128}
use Rattle.std.proofs.lemmas.Int.{fits_signed_from_abs, ints}
use Rattle.std.proofs.lemmas.List.{drop_more}
use Rattle.fx_tap_sums.proofs.Magnitudes.{scaled-bound}
use Rattle.fx_tap_sums.specs.Products.{sum_of_products}

pub within_abs : (z : ℤ) (k : ℕ) → unsigned_abs z ≤ k → (neg_ℤ (pos k) ≤ℤ z) × (z ≤ℤ pos k)
within_abs (pos n) k h = (omega (arith, ints), omega (arith, ints))
within_abs (negsuc n) k h = (omega (arith, ints), omega (arith, ints))

pub product_within : (a b : ℤ) (m n : ℕ) → unsigned_abs a ≤ m → unsigned_abs b ≤ n → (neg_ℤ (pos (m * n)) ≤ℤ (a *ℤ b)) × ((a *ℤ b) ≤ℤ pos (m * n))
product_within a b m n a_small b_small = within_abs (a *ℤ b) (m * n) (scaled-bound a b m n a_small b_small)

-- a product added to a sum that is not too large
pub sum-fits : (s p : ℤ) (k : ℕ) → k ≤ 2 ^ 95 → neg_ℤ (pos k) ≤ℤ s → s ≤ℤ pos k → neg_ℤ (pos (2 ^ 83)) ≤ℤ p → p ≤ℤ pos (2 ^ 83) → FitsSigned w128 (s +ℤ p)
sum-fits (pos s) (pos p) k bound s_low s_high p_low p_high = fits_signed_from_abs w128 (pos s +ℤ pos p) (omega (arith, ints))
sum-fits (pos s) (negsuc p) k bound s_low s_high p_low p_high = fits_signed_from_abs w128 (pos s +ℤ negsuc p) (omega (arith, ints))
sum-fits (negsuc s) (pos p) k bound s_low s_high p_low p_high = fits_signed_from_abs w128 (negsuc s +ℤ pos p) (omega (arith, ints))
sum-fits (negsuc s) (negsuc p) k bound s_low s_high p_low p_high = fits_signed_from_abs w128 (negsuc s +ℤ negsuc p) (omega (arith, ints))

-- one place on
pub sum_of_products-drop : (xs cs : List ℤ) (i : ℕ) (d e : ℤ) → i < length xs → i < length cs →
    sum_of_products (drop i xs) (drop i cs) ≡ (get_or xs i d *ℤ get_or cs i e) +ℤ sum_of_products (drop (i + 1) xs) (drop (i + 1) cs)
sum_of_products-drop xs cs i d e in_xs in_cs = rw (drop_more xs i d in_xs, drop_more cs i e in_cs) refl
