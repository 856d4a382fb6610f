-- Products that fit the integers that they are computed in.
use Rattle.std.proofs.Common.{ℤ, ◌^◌, ◌≤◌, ◌≡◌, ◌*◌, ◌*ℤ◌, arith, to_z, of_z, FitsSigned, unsigned_abs, w64}
use Rattle.std.proofs.lemmas.Int.{fits_signed_from_abs}
use Rattle.fx_fixed.specs.declared.gains.TheConstants.{UNIT}
use Rattle.fx_tap_sums.proofs.SmallSums.{held-in-64, wide-bound}
use Rattle.fx_tap_sums.proofs.SumLaws.{held}
use Rattle.fx_tap_sums.proofs.Magnitudes.{scaled-bound}
use mir.Syntax.{w128}

-- two numbers of 32 bits in 64
pub product-fits : (w x f y : ℤ) → f ≡ w → y ≡ x → unsigned_abs w ≤ 2 ^ 31 → unsigned_abs x ≤ 2 ^ 31 → FitsSigned w64 (to_z w64 (of_z w64 f) *ℤ to_z w64 (of_z w64 y))
product-fits w x f y e d small sample =
    let product = scaled-bound w x (2 ^ 31) (2 ^ 31) small sample in
    rw (e, d, held-in-64 w (omega (arith, small)), held-in-64 x (omega (arith, sample))) (fits_signed_from_abs w64 (w *ℤ x) (omega (arith, product)))

-- a small weight and a larger sample in 64 bits
pub wide-fits : (w x f : ℤ) → f ≡ w → unsigned_abs w ≤ 2 ^ 24 → unsigned_abs x ≤ 2 ^ 34 → FitsSigned w64 (to_z w64 (of_z w64 f) *ℤ to_z w64 (of_z w64 x))
wide-fits w x f e small sample =
    let product = wide-bound w x small sample in
    rw (e, held-in-64 w (omega (arith, small)), held-in-64 x (omega (arith, sample))) (fits_signed_from_abs w64 (w *ℤ x) (omega (arith, product)))

-- a gain and a sum in 128 bits
pub scaled-fits : (g s f : ℤ) → f ≡ g → unsigned_abs g ≤ 1000 * UNIT → unsigned_abs s ≤ 29 * (UNIT * 2 ^ 31) → FitsSigned w128 (to_z w128 (of_z w128 f) *ℤ to_z w128 (of_z w128 s))
scaled-fits g s f e small bound =
    let product = scaled-bound g s _ _ small bound in
    rw (e, held s (omega (arith, bound)), held g (omega (arith, small))) (fits_signed_from_abs w128 (g *ℤ s) (omega (arith, product)))
