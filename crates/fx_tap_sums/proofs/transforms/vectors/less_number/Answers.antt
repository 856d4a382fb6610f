use Rattle.fx_tap_sums.proofs.Vectors.{less_asked, less_lane}
use Rattle.fx_tap_sums.proofs.transforms.vectors.less_number.Goals as goal

pub overflow_sub-result : goal.overflow_sub-result
overflow_sub-result c = less_asked c.args.number c.args.x c.requires.x.four c.requires.x.less c.requires.number

pub returns-clause-value : goal.returns-clause-value
returns-clause-value c = less_lane c.args.number c.args.x c.requires.x.four c.requires.x.less c.requires.number
