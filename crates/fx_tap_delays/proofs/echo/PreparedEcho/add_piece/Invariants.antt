use Rattle.std.proofs.Common.{◌≡◌, ◌<◌, ◌≤◌, ◌+◌, ◌*◌, ◌^◌, ◌++◌, ℕ, pos, ◌+ℤ◌, drop, length, slice_index_or, unsigned_abs}
use Rattle.fx_frame_base.specs.Lists.{pieces}
use Rattle.fx_tap_delays.specs.Echo.{echo_sum, sum_of_taps}
use Rattle.fx_tap_delays.specs.EchoWeights.{weighed, weighed_taps}
use Rattle.fx_frame.specs.History.{sample_before}
use Rattle.fx_tap_delays.proofs.echo.PreparedEcho.add_piece.Given as goal

-- the echoes so far are added; with those to come it is the whole sum
abbrev pub invariant-taps : goal.invariant-taps
invariant-taps l = record {
  value : (i k : ℕ) → i < l.count → k < l.self.channels → slice_index_or l.sums (i * l.self.channels + k) (pos 0) +ℤ sum_of_taps (drop l.place (weighed_taps l.self.echo.taps (drop 1 l.small.weights))) (sample_before (l.line.items ++ pieces l.self.channels l.count l.frames) (length l.line.items + i)) k ≡ echo_sum (weighed l.self.echo l.small.weights) (sample_before (l.line.items ++ pieces l.self.channels l.count l.frames) (length l.line.items + i)) k;
  small : (k : ℕ) → unsigned_abs (slice_index_or l.sums k (pos 0)) ≤ (l.place + 1) * 2 ^ 58;
}
