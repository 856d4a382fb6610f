use Rattle.std.proofs.Common.{◌≡◌, ◌≤◌, ◌+◌, ◌-◌, ◌*◌, ℕ, drop}
use Rattle.fx_frame_base.specs.Lists.{pieces}
use Rattle.fx_tap_delays.specs.EchosState.{series_lines_after, AreEchoLines, SendsThrough, clips_through}
use Rattle.fx_tap_delays.specs.EchoWeights.{ForAllSuited}
use Rattle.fx_tap_delays.proofs.echos.echo_many.Given as goal

abbrev pub invariant-pieces : goal.invariant-pieces
invariant-pieces l = record {
  within : l.done ≤ l.count;
  lines : l.lines ≡ series_lines_after l.channels l.fn.lines (pieces l.channels l.done l.input);
  made : ForAllSuited l.small l.channels l.fn.lines (λ a. SendsThrough a l.fn.lines l.channels l.done l.input l.output);
  counted : ForAllSuited l.small l.channels l.fn.lines (λ a. l.clips ≡ clips_through a l.fn.lines l.channels l.done l.input);
  bound : l.clips ≤ l.done * 16;
  rest_unchanged : drop (l.done * l.channels) l.output ≡ drop (l.done * l.channels) l.fn.output;
  sound : (came : ℕ) → AreEchoLines l.channels came l.taps l.fn.lines → AreEchoLines l.channels (came + l.done) l.taps l.lines;
}

abbrev pub decreases-pieces : goal.decreases-pieces
decreases-pieces l = l.count - l.done
