use Rattle.std.proofs.Common.{◌≡◌, ◌≤◌, ◌+◌, ◌*◌, ◌^◌, ◌+ℤ◌, drop, unsigned_abs}
use Rattle.fx_tap_delays.specs.Echo.{echo_sum, sum_of_taps}
use Rattle.fx_tap_delays.specs.EchoWeights.{weighed, weighed_taps}
use Rattle.fx_tap_delays.specs.Tapping.{history_after}
use Rattle.fx_tap_delays.proofs.echo.PreparedEcho.small_sum.Given as goal

-- the echoes so far are added; with those to come it is the whole sum
abbrev pub invariant-taps : goal.invariant-taps
invariant-taps l = record {
  value : l.sum +ℤ sum_of_taps (drop l.place (weighed_taps l.self.echo.taps (drop 1 l.small.weights))) (history_after l.line.items l.frame) l.channel ≡ echo_sum (weighed l.self.echo l.small.weights) (history_after l.line.items l.frame) l.channel;
  small : unsigned_abs l.sum ≤ (l.place + 1) * 2 ^ 58;
}
