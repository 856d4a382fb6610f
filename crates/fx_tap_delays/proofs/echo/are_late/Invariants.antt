use Rattle.fx_tap_delays.specs.DelayExtents.{Tap}
use Rattle.std.proofs.Common.{◌≤◌, ◌<◌, ℕ, slice_index_or}
use Rattle.fx_tap_delays.proofs.echo.are_late.Given as goal

-- each echo so far is that late
abbrev pub invariant-taps : goal.invariant-taps
invariant-taps l = (k : ℕ) (d : Tap) → k < l.echo-index → l.count ≤ (slice_index_or l.taps k d).0
