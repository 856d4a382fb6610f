use Rattle.std.proofs.Common.{◌<◌, ◌≤◌, ℕ, drop, take, unsigned_abs, sum_by}
use Rattle.fx_tap_sums.proofs.pairs.are_carried.Given as goal

abbrev pub invariant-places : goal.invariant-places
invariant-places l = (k : ℕ) → k < l.place → sum_by unsigned_abs (take l.taps (drop k l.lows)) ≤ 65000
