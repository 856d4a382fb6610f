use Rattle.std.proofs.Common.{◌≡◌, ◌+◌, ◌-◌, ◌^◌, ◌≤◌, drop, min}
use Rattle.fx_tap_delays.specs.DelayExtents.{sum_of_delays}
use Rattle.fx_tap_delays.proofs.extents.total_delay.Given as goal

abbrev pub invariant-taps : goal.invariant-taps
invariant-taps l = record {
  value : min (l.total + sum_of_delays (drop l.tap-index l.taps)) (2 ^ 64 - 1) ≡ min (sum_of_delays l.taps) (2 ^ 64 - 1);
  bound : l.total ≤ 2 ^ 64 - 1;
}
