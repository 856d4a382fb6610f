use Rattle.fx_tap_sums.proofs.Samples.{cast_fits, sum_less, sum_same}
use Rattle.fx_tap_sums.proofs.transforms.loading.sample_remainder.Goals as goal

pub overflow_cast-result-2 : goal.overflow_cast-result-2
overflow_cast-result-2 g c = cast_fits g.row.P c.args.sample c.requires.0 c.requires.1 c.ranges.sample

pub returns-clause-less : goal.returns-clause-less
returns-clause-less g c = sum_less g.row.P c.args.sample c.requires.0 c.requires.1 c.ranges.sample

pub returns-clause-same : goal.returns-clause-same
returns-clause-same g c = sum_same g.row.P c.args.sample c.requires.0 c.requires.1 c.ranges.sample
