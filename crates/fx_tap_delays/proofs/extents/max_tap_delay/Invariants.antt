use Rattle.std.proofs.Common.{◌≡◌, drop, map, max}
use Rattle.fx_fixed.specs.Extents.{largest}
use Rattle.fx_tap_delays.specs.DelayExtents.{tap_delay}
use Rattle.fx_tap_delays.proofs.extents.max_tap_delay.Given as goal

abbrev pub invariant-taps : goal.invariant-taps
invariant-taps l = max l.maximum (largest (map tap_delay (drop l.tap-index l.taps))) ≡ largest (map tap_delay l.taps)
