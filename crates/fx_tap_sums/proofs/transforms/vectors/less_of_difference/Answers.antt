use Rattle.fx_tap_sums.proofs.Vectors.{minimum_below, minimum_above}
use Rattle.fx_tap_sums.proofs.transforms.vectors.less_of_difference.Goals as goal

pub returns-clause-below : goal.returns-clause-below
returns-clause-below c = minimum_below c.args.x c.args.number c.requires.x.four c.ranges.number.fits c.requires.number

pub returns-clause-above : goal.returns-clause-above
returns-clause-above c = minimum_above c.args.x c.args.number c.requires.x.four c.requires.x.less c.requires.number
