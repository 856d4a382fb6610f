use Rattle.std.proofs.Common.{◌≡◌, ◌≤◌, ◌+◌, ◌*◌, ℕ, drop}
use Rattle.fx_frame_base.specs.Lists.{pieces}
use Rattle.fx_tap_delays.specs.Echo.{EchoArguments, echo_with}
use Rattle.fx_tap_delays.specs.EchosState.{series_lines_after, AreEchoLines, SendsThrough, clips_through}
use Rattle.fx_tap_delays.proofs.echos.echo_over_by_frames.Given as goal

abbrev pub invariant-frames : goal.invariant-frames
invariant-frames l =
    let a : EchoArguments = echo_with l.channels l.fn.gains.0 l.fn.gains.1 l.taps in
    record {
      lines : l.lines ≡ series_lines_after l.channels l.fn.lines (pieces l.channels l.turn l.fn.samples);
      made : SendsThrough a l.fn.lines l.channels l.turn l.fn.samples l.samples;
      counted : l.clips ≡ clips_through a l.fn.lines l.channels l.turn l.fn.samples;
      bound : l.clips ≤ l.turn * 16;
      rest_unchanged : drop (l.turn * l.channels) l.samples ≡ drop (l.turn * l.channels) l.fn.samples;
      sound : (came : ℕ) → AreEchoLines l.channels came l.taps l.fn.lines → AreEchoLines l.channels (came + l.turn) l.taps l.lines;
    }
