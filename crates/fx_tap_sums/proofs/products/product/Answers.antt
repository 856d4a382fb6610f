use Rattle.std.proofs.Common.{arith, ◌≤◌, ◌^◌, unsigned_abs}
use Rattle.std.proofs.lemmas.Int.{ints, to_z-of_z}
use Rattle.fx_tap_sums.proofs.products.product.Goals as goal
use Rattle.fx_tap_sums.proofs.ProductBounds.{product_within}

pub returns-clause-low : goal.returns-clause-low
returns-clause-low c =
    let small : unsigned_abs c.args.sample ≤ 2 ^ 31 = omega (arith, ints) in
    let bounds = product_within c.args.sample c.args.coefficient (2 ^ 31) (2 ^ 52) small c.requires in
    grind (arith, to_z-of_z, bounds.0)

pub returns-clause-high : goal.returns-clause-high
returns-clause-high c =
    let small : unsigned_abs c.args.sample ≤ 2 ^ 31 = omega (arith, ints) in
    let bounds = product_within c.args.sample c.args.coefficient (2 ^ 31) (2 ^ 52) small c.requires in
    grind (arith, ints, to_z-of_z, bounds.1)
