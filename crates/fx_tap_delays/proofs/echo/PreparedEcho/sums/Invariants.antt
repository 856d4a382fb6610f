use Rattle.std.proofs.Common.{◌≡◌, ◌<◌, ◌≤◌, ◌+◌, ◌*◌, ◌^◌, ℕ, pos, ◌+ℤ◌, drop, slice_index_or, unsigned_abs}
use Rattle.fx_fixed.specs.declared.gains.TheConstants.{UNIT}
use Rattle.fx_tap_delays.specs.Echo.{echo_sum, sum_of_taps}
use Rattle.fx_tap_delays.specs.Tapping.{history_after}
use Rattle.fx_tap_delays.proofs.echo.PreparedEcho.sums.Given as goal

-- the echoes so far are added; with those to come it is the whole sum
abbrev pub invariant-taps : goal.invariant-taps
invariant-taps l = record {
  value : (k : ℕ) → k < l.self.channels → slice_index_or l.sums k (pos 0) +ℤ sum_of_taps (drop l.echo-index l.self.echo.taps) (history_after l.line.items l.frame) k ≡ echo_sum l.self.echo (history_after l.line.items l.frame) k;
  small : (k : ℕ) → unsigned_abs (slice_index_or l.sums k (pos 0)) ≤ (l.echo-index + 1) * (UNIT * 2 ^ 31);
}
