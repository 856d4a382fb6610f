use Rattle.fx_tap_sums.proofs.Vectors.{both_lanes, four_of_both}
use Rattle.fx_tap_sums.proofs.transforms.vectors.subtract.Goals as goal

pub overflow_sub-result : goal.overflow_sub-result
overflow_sub-result c = both_lanes _ c.args.x c.args.y c.requires.x c.requires.y (λ k l. c.requires.less k l)

pub returns-clause-four : goal.returns-clause-four
returns-clause-four c = four_of_both _ c.args.x c.args.y c.requires.x c.requires.y
