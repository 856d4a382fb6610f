use Rattle.std.proofs.Common.{arith, ◌^◌, ◌<◌}
use Rattle.std.proofs.Math.Nat.{one-le-pow}
use Rattle.fx_tap_sums.proofs.PairLanes.{shift_is, shifted-fit, shifted-is-floor}
use Rattle.fx_tap_sums.proofs.pairs.carried.Goals as goal

pub returns-clause-fits : goal.returns-clause-fits
returns-clause-fits c = rw (shift_is c.args.split c.requires.split c.args.low c.requires.low.four c.requires.low.fits) (shifted-fit (2 ^ c.args.split) c.args.low c.requires.low)

pub returns-clause-floor : goal.returns-clause-floor
returns-clause-floor c = λ k l.
    let four = c.requires.low.four in
    let some : 0 < 2 ^ c.args.split = one-le-pow c.args.split 2 (omega arith) in
    rw (shift_is c.args.split c.requires.split c.args.low four c.requires.low.fits) (shifted-is-floor (2 ^ c.args.split) some c.args.low k (omega (arith, four, l)))
