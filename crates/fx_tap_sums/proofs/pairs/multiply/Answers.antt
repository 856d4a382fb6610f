use Rattle.std.proofs.Common.{◌∙◌, ◌*ℤ◌, arith, refl, w32}
use Rattle.std.specs.Simd.Lanes.{zip2}
use Rattle.std.proofs.lemmas.Simd.{length-zip2}
use Rattle.fx_tap_sums.proofs.PairLanes.{mul_asked, mul_bits, products_fit, signed_back}
use Rattle.fx_tap_sums.proofs.pairs.multiply.Goals as goal

pub overflow_mul-result : goal.overflow_mul-result
overflow_mul-result c = mul_asked c.args.x c.args.y c.requires.x.fits c.requires.y.fits

pub returns : goal.returns
returns c =
    let bits = mul_bits c.args.x c.args.y c.requires.x.fits c.requires.y.fits in
    let fit = products_fit c.args.x c.args.y c.requires.x.fits c.requires.y.fits in
    let back = signed_back w32 (zip2 (λ a b. a *ℤ b) c.args.x c.args.y) fit in
    let x_eight = c.requires.x.eight in
    rw (bits, back) (record {
      eight = length-zip2 (λ a b. a *ℤ b) c.args.x c.args.y (omega (arith, x_eight, c.requires.y.eight)) ∙ x_eight;
      fits = fit;
      value = refl;
    })
