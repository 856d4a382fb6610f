use Rattle.std.proofs.Common.{◌*◌}
use Rattle.fx_tap_sums.specs.Pairs.{AreCarried}
use Rattle.fx_tap_sums.proofs.pairs.max_interval.Given as goal

abbrev pub invariant-intervals : goal.invariant-intervals
invariant-intervals l = AreCarried (2 * l.shorter) l.lows
