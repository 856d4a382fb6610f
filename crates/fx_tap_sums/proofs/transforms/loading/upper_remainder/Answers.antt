use Rattle.fx_tap_sums.proofs.Divided.{upper_same}
use Rattle.fx_tap_sums.proofs.transforms.loading.upper_remainder.Goals as goal

pub returns-clause-same : goal.returns-clause-same
returns-clause-same g c = λ upper is. upper_same g.row.P c.args.sample upper c.requires.0 c.requires.1 c.ranges.sample is
