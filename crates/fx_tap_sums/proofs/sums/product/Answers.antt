use Rattle.std.proofs.Common.{rules, ◌≡◌, ◌≤◌, ◌^◌, ◌*ℤ◌, ℤ, arith, unsigned_abs, FitsSigned, to_z, of_z, w32, w64}
use Rattle.std.proofs.lemmas.Int.{fits_signed_from_abs, ints}
use Rattle.fx_tap_sums.proofs.SmallSums.{held-in-64, plain-product, weighed-bound}
use Rattle.fx_tap_sums.proofs.sums.product.Goals as goal

sample-bound : (x : ℤ) → FitsSigned w32 x → unsigned_abs x ≤ 2 ^ 31
sample-bound x fits = omega (arith, ints)

-- the product of both, widened
product-is : (w x f y : ℤ) → f ≡ w → y ≡ x → unsigned_abs w ≤ 2 ^ 27 → FitsSigned w32 x → let z : ℤ = to_z w64 (of_z w64 f) *ℤ to_z w64 (of_z w64 y) in FitsSigned w64 z × (to_z w64 (of_z w64 z) ≡ w *ℤ x)
product-is w x f y f_is y_is small fits =
    let maximum = weighed-bound w x small (sample-bound x fits) in
    rw (plain-product w x f y f_is y_is small (sample-bound x fits)) (fits_signed_from_abs w64 (w *ℤ x) (omega (arith, maximum)), held-in-64 (w *ℤ x) (omega (arith, maximum)))

pub overflow_mul-result : goal.overflow_mul-result
overflow_mul-result c = (product-is c.args.weight c.args.sample c.from.result c.from-2.result (search rules) (search rules) c.requires c.ranges.sample).0

pub returns-clause-value : goal.returns-clause-value
returns-clause-value c = (product-is c.args.weight c.args.sample c.from.result c.from-2.result (search rules) (search rules) c.requires c.ranges.sample).1

pub returns-clause-bound : goal.returns-clause-bound
returns-clause-bound c = rw (returns-clause-value c) (weighed-bound c.args.weight c.args.sample c.requires (sample-bound c.args.sample c.ranges.sample))
