use Rattle.std.proofs.Common.{◌≡◌, drop, max}
use Rattle.fx_fixed.specs.Extents.{largest}
use Rattle.fx_tap_delays.proofs.extents.max_delay.Given as goal

abbrev pub invariant-delays : goal.invariant-delays
invariant-delays l = max l.maximum (largest (drop l.delay-index l.delays)) ≡ largest l.delays
