use Rattle.std.proofs.Common.{inl, inr}
use Rattle.fx_tap_sums.proofs.PairLanes.{part-fits, part-joined, part-low, weighed_16384, weighed_8192}
use Rattle.fx_tap_sums.proofs.pairs.parts_of.Goals as goal

pub overflow_sub-result : goal.overflow_sub-result
overflow_sub-result c =
    elim c.requires.split [
      | inl e ↦ let bound = rw e at c.requires.weight in rw e (part-fits 8192 4096 c.args.weight (weighed_8192 c.args.weight c.ranges.weight bound))
      | inr e ↦ let bound = rw e at c.requires.weight in rw e (part-fits 16384 8192 c.args.weight (weighed_16384 c.args.weight c.ranges.weight bound))
    ]

pub returns-clause-value : goal.returns-clause-value
returns-clause-value c =
    elim c.requires.split [
      | inl e ↦ let bound = rw e at c.requires.weight in rw e (part-joined 8192 4096 c.args.weight (weighed_8192 c.args.weight c.ranges.weight bound))
      | inr e ↦ let bound = rw e at c.requires.weight in rw e (part-joined 16384 8192 c.args.weight (weighed_16384 c.args.weight c.ranges.weight bound))
    ]

pub returns-clause-low : goal.returns-clause-low
returns-clause-low c =
    elim c.requires.split [
      | inl e ↦ let bound = rw e at c.requires.weight in rw e (part-low 8192 4096 c.args.weight (weighed_8192 c.args.weight c.ranges.weight bound))
      | inr e ↦ let bound = rw e at c.requires.weight in rw e (part-low 16384 8192 c.args.weight (weighed_16384 c.args.weight c.ranges.weight bound))
    ]
