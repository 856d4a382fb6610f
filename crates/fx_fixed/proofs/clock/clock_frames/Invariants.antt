use Rattle.std.proofs.Common.{◌≡◌, ◌*◌, ◌^◌, ◌≤◌, ◌<◌}
use Rattle.fx_fixed.specs.Clock.{clock_of}
use Rattle.fx_fixed.proofs.ClockAfter.{clock_after}
use Rattle.fx_fixed.proofs.clock.clock_frames.Given as goal

abbrev pub invariant-loop-count : goal.invariant-loop-count
invariant-loop-count l = record {
  value : clock_after l.rate l.seconds l._count l.digits l.rest ≡ clock_of l.rate l.text;
  seconds : l.seconds < 10 ^ 18 * 100 ^ l._count;
  digits : l.digits ≤ 18 * l._count;
}
