use Rattle.std.proofs.Common.{◌≡◌, ◌≤◌, ◌-◌, ◌*◌}
use Rattle.fx_tap_delays.specs.EchoState.{echo_taps}
use Rattle.fx_frame.specs.Tapped.{clips_in_block}
use Rattle.fx_tap_delays.proofs.Groups.{MadeFrames}
use Rattle.fx_tap_delays.proofs.echo.PreparedEchoTapsMany.tap_many.Given as goal

abbrev pub invariant-pieces : goal.invariant-pieces
invariant-pieces l = record {
  within : l.done ≤ l.count;
  made : MadeFrames echo_taps l.self l.fn.line l.done l.input l.fn.output l.output l.line;
  counted : l.clips ≡ clips_in_block echo_taps l.self l.fn.line.items l.done l.input;
  bound : l.clips ≤ l.done * 16;
}

abbrev pub decreases-pieces : goal.decreases-pieces
decreases-pieces l = l.count - l.done
