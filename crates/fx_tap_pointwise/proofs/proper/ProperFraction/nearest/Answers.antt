use Rattle.std.proofs.Common.{◌≡◌, FitsSigned, rules}
use Rattle.std.specs.Int.{w32}
use Rattle.std.proofs.lemmas.Int.{to_z-of_z}
use Rattle.fx_tap_pointwise.proofs.ProperRounding.{code-nearest, nearest-range, sum-fits, sum-fits_with_half}
use Rattle.fx_tap_pointwise.proofs.proper.ProperFraction.nearest.Goals as goal
use Rattle.fx_tap_pointwise.proofs.proper.ProperFraction.nearest.Goals.{After-from-2}

-- what is multiplied, as 64 bits
sample-is : (c : After-from-2) → c.from-sample.result ≡ c.args.sample
sample-is c = search (rules, to_z-of_z)

high-is : (c : After-from-2) → c.from-2.result ≡ c.self.inside.high
high-is c = search (rules, to_z-of_z)

low-is : (c : After-from-2) → c.from.result ≡ c.self.inside.low
low-is c = search (rules, to_z-of_z)

high-fits : (c : After-from-2) → FitsSigned w32 c.self.inside.high
high-fits c = search rules

pub overflow_add-result : goal.overflow_add-result
overflow_add-result c =
    let f = c.self.inside in
    sum-fits f.weight f.denominator f.high f.low c.args.sample c.from-sample.result c.from-2.result c.from.result c.self.invariant (sample-is c) (high-is c) (low-is c) (high-fits c) c.ranges.sample

pub overflow_add-result-2 : goal.overflow_add-result-2
overflow_add-result-2 c =
    let f = c.self.inside in
    sum-fits_with_half f.weight f.denominator f.high f.low c.args.sample c.from-sample.result c.from-2.result c.from.result c.self.invariant (sample-is c) (high-is c) (low-is c) (high-fits c) c.ranges.sample

pub returns-clause-value : goal.returns-clause-value
returns-clause-value c =
    let f = c.self.inside in
    rw (← c.self.view_is)
    (code-nearest f.weight f.denominator f.high f.low c.args.sample c.from-sample.result c.from-2.result c.from.result c.self.invariant (sample-is c) (high-is c) (low-is c) (high-fits c) c.ranges.sample)

pub returns-clause-low : goal.returns-clause-low
returns-clause-low c =
    let f = c.self.inside in
    rw (returns-clause-value c, ← c.self.view_is) (nearest-range f.weight f.denominator c.args.sample c.self.invariant.below c.ranges.sample).0

pub returns-clause-high : goal.returns-clause-high
returns-clause-high c =
    let f = c.self.inside in
    rw (returns-clause-value c, ← c.self.view_is) (nearest-range f.weight f.denominator c.args.sample c.self.invariant.below c.ranges.sample).1
