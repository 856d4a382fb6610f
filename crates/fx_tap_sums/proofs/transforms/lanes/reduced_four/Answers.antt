use Rattle.std.proofs.Common.{arith}
use Rattle.fx_tap_sums.proofs.Vectors.{lane_reduced, lane_same}
use Rattle.fx_tap_sums.proofs.transforms.lanes.reduced_four.Goals as goal

pub returns-clause-less : goal.returns-clause-less
returns-clause-less g c = lane_reduced g.row.P c.args.numbers c.less_of_difference.result c.requires.numbers c.less_of_difference.ensures.four c.less_of_difference.ensures.below c.less_of_difference.ensures.above

pub returns-clause-same : goal.returns-clause-same
returns-clause-same g c = lane_same g.row.P 1 g.row.P c.args.numbers c.less_of_difference.result (omega arith) c.less_of_difference.ensures.below c.less_of_difference.ensures.above
