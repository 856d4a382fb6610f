use Rattle.fx_tap_sums.proofs.Steps.{level_bound}
use Rattle.fx_tap_sums.proofs.transforms.transform.are_bounded.Goals as goal

pub returns-clause-low : goal.returns-clause-low
returns-clause-low g c = rw (← level_bound c.args.levels g.row.P c.requires.some c.requires.bound) c.requires.low

pub returns-clause-high : goal.returns-clause-high
returns-clause-high g c = rw (← level_bound c.args.levels g.row.P c.requires.some c.requires.bound) c.requires.high
