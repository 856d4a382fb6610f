use Rattle.std.proofs.Common.{◌≡◌, ◌+◌, ◌≤◌, ◌^◌, ◌∙◌, ap, false, length, arith, None}
use Rattle.fx_frame.proofs.DryLaws.{dry-pending}
use Rattle.fx_tap_delays.specs.EchosState.{lines_after}
use Rattle.fx_frame_base.specs.Frame.{silence}
use Rattle.fx_tap_delays.proofs.EchosBlocks.{IsEchos-block, frame-passed}
use Rattle.fx_tap_delays.proofs.EchosLaws.{length-after, lines-sound}
use Rattle.fx_frame_base.proofs.Puts.{written_back}
use Rattle.fx_tap_delays.proofs.echos.EchosFeeds.pass_samples.Goals.{After-echo_over-clips}
use Rattle.fx_tap_delays.proofs.echos.EchosFeeds.pass_samples.Goals as goal

none : (c : After-echo_over-clips) → c.self.inside.core.pending ≡ None
none c = dry-pending c.self.inside.core.pending c.self.inside.tail (rw (← c.self.view_is) at c.requires.dry)

series : (c : After-echo_over-clips) → c.echo_over-clips.new.lines ≡ lines_after c.self.inside.channels c.self.inside.lines.items c.args.samples.now (silence c.self.inside.channels)
series c = rw c.deref_mut.ensures.value at c.echo_over-clips.ensures.lines

many : (c : After-echo_over-clips) → length c.echo_over-clips.new.lines ≡ length c.self.inside.lines.items
many c = ap length (series c) ∙ length-after c.self.inside.channels c.self.inside.lines.items c.args.samples.now (silence c.self.inside.channels)

pub invariant_of-self : goal.invariant_of-self
invariant_of-self c =
    let s = c.self.inside in
    let after = (goal.at.invariant_of-self c).After-echo_over-clips in
    let is = c.self.invariant.0 in
    let over : s.core.ended ≡ false = rw (← c.self.view_is) at c.requires.not_ended in
    let limit = rw (← c.self.view_is) at c.requires.below_limit in
    let bound : s.core.taken + 1 ≤ 2 ^ 56 = omega (arith, limit) in
    rw (written_back s.lines.items c.echo_over-clips.new.lines s.lines.len s.lines.ok.0 (many after), c.pass.ensures)
    (IsEchos-block _ c.echo_over-clips.new.lines 1 c.echo_over-clips.result is (none after) over bound (many after) (rw (series after) (lines-sound _ c.args.samples.now is c.echo_over-clips.ensures.small)) (omega (arith, c.echo_over-clips.ensures.bound)), c.self.invariant.1)

pub returns-clause-passed : goal.returns-clause-passed
returns-clause-passed c =
    let s = c.self.inside in
    let after = (goal.at.returns-clause-passed c).After-echo_over-clips in
    let over : s.core.ended ≡ false = rw (← c.self.view_is) at c.requires.not_ended in
    let frame = rw (c.deref_mut.ensures.value, c.deref.ensures.value) at c.echo_over-clips.ensures.frame in
    let clips = rw (c.deref_mut.ensures.value, c.deref.ensures.value) at c.echo_over-clips.ensures.clips in
    rw (← c.self.view_is, written_back s.lines.items c.echo_over-clips.new.lines s.lines.len s.lines.ok.0 (many after), c.pass.ensures)
    (frame-passed _ c.echo_over-clips.new.lines c.self.invariant.0 (none after) over c.args.samples.now c.echo_over-clips.new.samples c.echo_over-clips.result frame clips (series after))
