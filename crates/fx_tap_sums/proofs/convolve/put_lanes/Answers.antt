use Rattle.std.proofs.Common.{◌+◌, ◌-◌, ◌^◌, pos, arith}
use Rattle.fx_tap_sums.proofs.Convolving.{lanes-put}
use Rattle.fx_tap_sums.proofs.ProductLanes.{lanes_back}
use Rattle.fx_tap_sums.proofs.convolve.put_lanes.Goals as goal

pub returns-clause-put : goal.returns-clause-put
returns-clause-put c =
    let back = lanes_back (2 ^ 61) c.args.lanes (omega arith) c.requires.lanes.small in
    λ k l. rw back (lanes-put (pos 0) c.args.sums.now c.args.lanes c.args.at (c.args.at + 4 - c.args.at) k c.requires.lanes.four (omega arith) c.requires.free l)
