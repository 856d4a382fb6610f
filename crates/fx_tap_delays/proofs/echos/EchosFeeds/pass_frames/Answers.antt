use Rattle.std.proofs.Common.{◌≡◌, ◌+◌, ◌≤◌, ◌^◌, ◌∙◌, ap, false, length, arith, append-nil, None}
use Rattle.fx_frame_base.specs.Lists.{pieces}
use Rattle.fx_tap_delays.specs.EchosState.{IsEchos}
use Rattle.fx_frame.proofs.DryLaws.{dry-pending}
use Rattle.fx_tap_delays.proofs.EchosBlocks.{IsEchos-block, block-through, passed_echos}
use Rattle.fx_tap_delays.proofs.EchosGiven.{length-series_lines}
use Rattle.fx_tap_delays.proofs.EchosLaws.{frames-late}
use Rattle.fx_frame_base.proofs.Puts.{written_back}
use Rattle.fx_tap_delays.proofs.echos.EchosFeeds.pass_frames.Goals.{After-echo_frames-clips}
use Rattle.fx_tap_delays.proofs.echos.EchosFeeds.pass_frames.Goals as goal

none : (c : After-echo_frames-clips) → c.self.inside.core.pending ≡ None
none c = dry-pending c.self.inside.core.pending c.self.inside.tail (rw (← c.self.view_is) at c.requires.dry)

running : (c : After-echo_frames-clips) → c.self.inside.core.ended ≡ false
running c = rw (← c.self.view_is) at c.requires.not_ended

limit : (c : After-echo_frames-clips) → c.self.inside.core.taken + c.args.count ≤ 2 ^ 56
limit c = rw (← c.self.view_is) at c.requires.below_limit

many : (c : After-echo_frames-clips) → length c.echo_frames-clips.new.lines ≡ length c.self.inside.lines.items
many c = ap length (rw c.deref_mut.ensures.value at c.echo_frames-clips.ensures.lines) ∙ length-series_lines c.self.inside.channels c.self.inside.lines.items (pieces c.self.inside.channels c.args.count c.args.samples.now)

block : (c : After-echo_frames-clips) → IsEchos (passed_echos c.args.self.now c.echo_frames-clips.new.lines c.args.count c.echo_frames-clips.result)
block c =
    let is = c.self.invariant.0 in
    let sound = rw (c.deref_mut.ensures.value, c.deref.ensures.value) at c.echo_frames-clips.ensures.sound in
    rw (← c.self.view_is) (IsEchos-block _ c.echo_frames-clips.new.lines c.args.count c.echo_frames-clips.result is (none c) (running c) (limit c) (many c) (sound _ is.lines) c.echo_frames-clips.ensures.bound)

pub echo_frames-clips-requires-clause-lines : goal.echo_frames-clips-requires-clause-lines
echo_frames-clips-requires-clause-lines c = rw (c.deref_mut.ensures.value, c.deref.ensures.value) (_, c.self.invariant.0.lines)

pub echo_frames-clips-requires-clause-bound : goal.echo_frames-clips-requires-clause-bound
echo_frames-clips-requires-clause-bound c =
    let limit = rw (← c.self.view_is) at c.requires.below_limit in
    omega (arith, limit)

pub echo_frames-clips-requires-clause-samples : goal.echo_frames-clips-requires-clause-samples
echo_frames-clips-requires-clause-samples c = rw (← c.self.view_is) at c.requires.samples

pub pass-requires-clause-clips : goal.pass-requires-clause-clips
pass-requires-clause-clips c =
    let after = (goal.at.pass-requires-clause-clips c).After-echo_frames-clips in
    let counted = rw (none after, running after) at c.self.invariant.0.counted in
    omega (arith, counted, limit after, c.self.invariant.0.core.clips_max, c.self.invariant.0.core.bound, c.echo_frames-clips.ensures.bound)

pub pass-requires-clause-taken : goal.pass-requires-clause-taken
pass-requires-clause-taken c = omega (arith, limit (goal.at.pass-requires-clause-taken c).After-echo_frames-clips)

pub pass-requires-clause-given : goal.pass-requires-clause-given
pass-requires-clause-given c =
    let after = (goal.at.pass-requires-clause-given c).After-echo_frames-clips in
    let counted = rw (none after, running after) at c.self.invariant.0.counted in
    omega (arith, counted, limit after)

pub invariant_of-self : goal.invariant_of-self
invariant_of-self c =
    let s = c.self.inside in
    let after = (goal.at.invariant_of-self c).After-echo_frames-clips in
    rw (written_back s.lines.items c.echo_frames-clips.new.lines s.lines.len s.lines.ok.0 (many after), c.pass.ensures) ((rw (← c.self.view_is) at (block after)), c.self.invariant.1)

pub returns-clause-through : goal.returns-clause-through
returns-clause-through c =
    let s = c.self.inside in
    let after = (goal.at.returns-clause-through c).After-echo_frames-clips in
    let lines = rw c.deref_mut.ensures.value at c.echo_frames-clips.ensures.lines in
    let frames = rw (c.deref_mut.ensures.value, c.deref.ensures.value) at c.echo_frames-clips.ensures.frames in
    let clips = rw (c.deref_mut.ensures.value, c.deref.ensures.value) at c.echo_frames-clips.ensures.clips in
    rw (← c.self.view_is, written_back s.lines.items c.echo_frames-clips.new.lines s.lines.len s.lines.ok.0 (many after), c.pass.ensures)
    (block-through _ c.echo_frames-clips.new.lines c.self.invariant.0 (none after) (running after) c.args.count c.echo_frames-clips.result c.args.samples.now c.echo_frames-clips.new.samples frames clips lines)

pub returns-clause-lined : goal.returns-clause-lined
returns-clause-lined c =
    let s = c.self.inside in
    let after = (goal.at.returns-clause-lined c).After-echo_frames-clips in
    let within = frames-late _ (rw (← c.self.view_is) at (block after)) in
    rw (written_back s.lines.items c.echo_frames-clips.new.lines s.lines.len s.lines.ok.0 (many after), c.pass.ensures, none after) (simp append-nil (omega (arith, within)))
