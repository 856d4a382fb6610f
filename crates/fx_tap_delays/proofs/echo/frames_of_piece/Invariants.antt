use Rattle.fx_tap_delays.specs.DelayExtents.{Tap}
use Rattle.std.proofs.Common.{◌≤◌, ◌<◌, ◌*◌, ℕ, slice_index_or}
use Rattle.fx_tap_delays.proofs.echo.frames_of_piece.Given as goal

-- no echo so far is less late
abbrev pub invariant-taps : goal.invariant-taps
invariant-taps l = record {
  some : 1 ≤ l.maximum;
  free : l.maximum * l.channels ≤ 256;
  late : (k : ℕ) (d : Tap) → k < l.echo-index → l.maximum ≤ (slice_index_or l.taps k d).0;
}
