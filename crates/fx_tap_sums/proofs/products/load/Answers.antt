use Rattle.std.proofs.Common.{arith, pos}
use Rattle.std.proofs.lemmas.Int.{to_z-of_z}
use Rattle.fx_tap_sums.proofs.products.load.Goals as goal
use Rattle.fx_tap_sums.proofs.ProductLanes.{chunk-four}

pub returns-clause-value : goal.returns-clause-value
returns-clause-value c =
    let four = chunk-four c.args.samples.now c.args.at (pos 0) c.requires in
    grind (arith, to_z-of_z, four)
