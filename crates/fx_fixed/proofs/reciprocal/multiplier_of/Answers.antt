use Rattle.fx_fixed.proofs.Reciprocals.{between, exponent-bound}
use Rattle.fx_fixed.proofs.reciprocal.multiplier_of.Goals as goal

pub returns-then-value-floor-clause-shift : goal.returns-then-value-floor-clause-shift
returns-then-value-floor-clause-shift c = exponent-bound c.ilog2-floor.result c.args.value c.ilog2-floor.ensures.power_le c.requires.largest

pub returns-else-value-floor-clause-above : goal.returns-else-value-floor-clause-above
returns-else-value-floor-clause-above c =
    let e = c.ilog2-floor.ensures in
    (between c.args.value c.ilog2-floor.result c.requires.minimum c.requires.largest c.if-value-floor.false e.power_le e.next_power_gt).0

pub returns-else-value-floor-clause-below : goal.returns-else-value-floor-clause-below
returns-else-value-floor-clause-below c =
    let e = c.ilog2-floor.ensures in
    (between c.args.value c.ilog2-floor.result c.requires.minimum c.requires.largest c.if-value-floor.false e.power_le e.next_power_gt).1
