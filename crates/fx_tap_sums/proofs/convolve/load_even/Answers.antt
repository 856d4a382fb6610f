use Rattle.std.proofs.Common.{rules, arith, ◌+◌, ◌-◌}
use Rattle.fx_tap_sums.proofs.InTurn.{lane-loaded}
use Rattle.fx_tap_sums.proofs.PairLanes.{each_of_four}
use Rattle.fx_tap_sums.proofs.convolve.load_even.Goals as goal

pub returns-clause-value : goal.returns-clause-value
returns-clause-value c =
    let xs = c.args.samples.now in
    let at = c.args.at in
    let n = at + 8 - at in
    each_of_four _ (lane-loaded xs at n 0 (omega arith) c.requires (omega arith) (search rules)) (lane-loaded xs at n 2 (omega arith) c.requires (omega arith) (search rules))
    (lane-loaded xs at n 4 (omega arith) c.requires (omega arith) (search rules)) (lane-loaded xs at n 6 (omega arith) c.requires (omega arith) (search rules))
