use Rattle.std.proofs.Common.{◌≡◌, ◌≤◌, take, drop}
use Rattle.fx_frame_base.specs.Lists.{tabulate}
use Rattle.fx_frame_base.specs.Rounded.{clips_rounded, samples_of}
use Rattle.fx_tap_delays.specs.EchoWeights.{one_echo_sample}
use Rattle.fx_tap_delays.proofs.echo.one_echo_over.Given as goal

-- the channels so far are rounded, and their clips counted
abbrev pub invariant-channels : goal.invariant-channels
invariant-channels l = record {
  done : take l.channel l.earlier ≡ samples_of (tabulate (one_echo_sample l.small l.came l.fn.earlier) 0 l.channel);
  rest : drop l.channel l.earlier ≡ drop l.channel l.fn.earlier;
  counted : l.clips ≡ clips_rounded (tabulate (one_echo_sample l.small l.came l.fn.earlier) 0 l.channel);
  bound : l.clips ≤ l.channel;
}
