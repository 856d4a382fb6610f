use Rattle.fx_fixed.proofs.Reciprocals.{code-nearest, sum-fits, upper-fits}
use Rattle.fx_fixed.proofs.reciprocal.Denominator.nearest.Goals as goal

pub overflow_add-product : goal.overflow_add-product
overflow_add-product c =
    let d = c.self.inside in
    sum-fits d.value d.shift c.args.sum c.from-scaled.result c.from.result d.multiplier d.factor d.half c.self.invariant c.from-scaled.ensures c.from.ensures c.requires

pub overflow_cast-result : goal.overflow_cast-result
overflow_cast-result c =
    let d = c.self.inside in
    upper-fits d.value d.shift c.args.sum c.from-scaled.result c.from.result d.multiplier d.factor d.half c.self.invariant c.from-scaled.ensures c.from.ensures c.requires

pub returns : goal.returns
returns c =
    let d = c.self.inside in
    rw (← c.self.view_is)
    (code-nearest d.value d.shift c.args.sum c.from-scaled.result c.from.result d.multiplier d.factor d.half c.self.invariant c.from-scaled.ensures c.from.ensures c.requires)
