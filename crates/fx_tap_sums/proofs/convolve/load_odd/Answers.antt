use Rattle.std.proofs.Common.{rules, arith, ◌+◌, ◌*◌, ◌≡◌, ◌-◌}
use Rattle.fx_tap_sums.proofs.InTurn.{lane-loaded}
use Rattle.fx_tap_sums.proofs.PairLanes.{each_of_four}
use Rattle.fx_tap_sums.proofs.convolve.load_odd.Goals as goal

pub returns-clause-value : goal.returns-clause-value
returns-clause-value c =
    let xs = c.args.samples.now in
    let at = c.args.at in
    let n = at + 8 - at in
    let first : at + 1 ≡ at + 1 + 2 * 0 = omega arith in
    let second : at + 3 ≡ at + 1 + 2 * 1 = omega arith in
    let third : at + 5 ≡ at + 1 + 2 * 2 = omega arith in
    let fourth : at + 7 ≡ at + 1 + 2 * 3 = omega arith in
    each_of_four _ (rw (← first) (lane-loaded xs at n 1 (omega arith) c.requires (omega arith) (search rules))) (rw (← second) (lane-loaded xs at n 3 (omega arith) c.requires (omega arith) (search rules)))
    (rw (← third) (lane-loaded xs at n 5 (omega arith) c.requires (omega arith) (search rules))) (rw (← fourth) (lane-loaded xs at n 7 (omega arith) c.requires (omega arith) (search rules)))
