use Rattle.std.proofs.Common.{◌≡◌, ◌*◌}
use Rattle.fx_tap_delays.specs.Tapping.{CountsClips}
use Rattle.fx_tap_delays.proofs.Groups.{MadeFrames}
use Rattle.fx_tap_delays.proofs.tapped.tap_by_frames.Given as goal

abbrev pub invariant-frames : goal.invariant-frames
invariant-frames g l = record {
  at_is : l.at ≡ l._turn * g.T.Tapping.taps.channels l.tapping;
  made : MadeFrames g.T.Tapping.taps l.tapping l.fn.line l._turn l.input l.fn.output l.output l.line;
  clips : CountsClips g.T.Tapping.taps l.tapping l.fn.line.items l._turn l.input l.clips;
}
