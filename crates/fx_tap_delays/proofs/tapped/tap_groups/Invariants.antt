use Rattle.std.proofs.Common.{◌≤◌, ◌-◌}
use Rattle.fx_tap_delays.specs.Tapping.{CountsClips}
use Rattle.fx_tap_delays.proofs.Groups.{MadeFrames}
use Rattle.fx_tap_delays.proofs.tapped.tap_groups.Given as goal

abbrev pub invariant-groups : goal.invariant-groups
invariant-groups g l = record {
  within : l.done ≤ l.count;
  made : MadeFrames g.T.Tapping.taps l.tapping l.fn.line l.done l.fn.samples l.fn.samples l.samples l.line;
  clips : CountsClips g.T.Tapping.taps l.tapping l.fn.line.items l.done l.fn.samples l.clips;
}

abbrev pub decreases-groups : goal.decreases-groups
decreases-groups g l = l.count - l.done
