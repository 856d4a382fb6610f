use Rattle.std.proofs.Common.{◌≤◌, ◌-◌}
use Rattle.fx_tap_delays.specs.DelayState.{delay_taps}
use Rattle.fx_tap_delays.proofs.Groups.{MadeFrames}
use Rattle.fx_tap_delays.proofs.delay.delay_pieces.Given as goal

abbrev pub invariant-pieces : goal.invariant-pieces
invariant-pieces l = record {
  within : l.done ≤ l.count;
  made : MadeFrames delay_taps l.delays l.fn.line l.done l.input l.fn.output l.output l.line;
}

abbrev pub decreases-pieces : goal.decreases-pieces
decreases-pieces l = l.count - l.done
