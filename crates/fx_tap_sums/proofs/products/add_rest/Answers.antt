use Rattle.std.proofs.Common.{arith, pos, ◌<◌, length, get_or, ◌*ℤ◌, ◌≡◌}
use Rattle.std.proofs.lemmas.Int.{ints, to_z-of_z}
use Rattle.fx_tap_sums.proofs.products.add_rest.Goals as goal
use Rattle.fx_tap_sums.proofs.ProductBounds.{sum_of_products-drop}

pub loop-i-preserved : goal.loop-i-preserved
loop-i-preserved c =
    let in_coefficients : c.loop-i.i < length c.args.coefficients.now = omega arith in
    let step = sum_of_products-drop c.args.samples.now c.args.coefficients.now c.loop-i.i (pos 0) (pos 0) c.loop-i-test.true in_coefficients in
    let product : c.product-sum.result ≡ (get_or c.args.samples.now c.loop-i.i (pos 0) *ℤ get_or c.args.coefficients.now c.loop-i.i (pos 0)) = grind (arith, to_z-of_z) in
    record {
      low = omega (arith, ints);
      high = omega (arith, ints);
      value = omega (arith, ints);
    }
