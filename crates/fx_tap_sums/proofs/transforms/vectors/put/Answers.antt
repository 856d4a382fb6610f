use Rattle.std.proofs.Common.{◌+◌, ◌-◌, arith}
use Rattle.fx_tap_sums.proofs.Convolving.{lanes-put}
use Rattle.fx_tap_sums.proofs.transforms.vectors.put.Goals as goal

pub returns-clause-put : goal.returns-clause-put
returns-clause-put c = λ k l. lanes-put 0 c.args.numbers.now c.args.lanes c.args.at (c.args.at + 4 - c.args.at) k c.requires.lanes.four (omega arith) c.requires.free l
