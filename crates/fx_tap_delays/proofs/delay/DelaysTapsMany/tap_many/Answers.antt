-- All channels are delayed by as many frames as the line has places, or each by its own number.
use Rattle.std.proofs.Common.{arith, ◌≡◌, ◌*◌, ◌∙◌, ap, length, sym, take}
use Rattle.fx_frame_base.specs.Lists.{pieces}
use Rattle.fx_frame_base.proofs.Puts.{pieces-take}
use Rattle.fx_frame_line.specs.Line.{pushed_all}
use Rattle.fx_tap_delays.proofs.Delaying.{even-all, even-clips}
use Rattle.fx_tap_delays.proofs.delay.DelaysTapsMany.tap_many.Goals as goal

pub returns-then-all_are-clause-frames : goal.returns-then-all_are-clause-frames
returns-then-all_are-clause-frames c =
    let all = rw (c.deref.ensures.value, c.self.view_is, c.capacity.ensures.capacity) at c.all_are.ensures in
    even-all c.args.self.now c.args.line.now c.args.count c.args.input.now c.delay_evenly.new.output (all c.if-all_are.true) c.capacity.ensures.line c.requires.line.channels c.requires.input c.channels-channels.result c.channels-channels.ensures.value c.delay_evenly.ensures.frames

pub returns-then-all_are-clause-clips : goal.returns-then-all_are-clause-clips
returns-then-all_are-clause-clips c = record { counted = sym (even-clips c.args.self.now c.args.line.now.items (pieces (length c.args.self.now) c.args.count c.args.input.now)); bound = omega arith; small = omega arith }

pub returns-then-all_are-clause-line : goal.returns-then-all_are-clause-line
returns-then-all_are-clause-line c =
    let coming : pieces c.args.line.now.channels c.args.count (take (c.args.count * c.channels-channels.result) c.args.input.now) ≡ pieces (length c.args.self.now) c.args.count c.args.input.now =
    rw (c.requires.line.channels, c.channels-channels.ensures.value) (pieces-take _ c.args.count c.args.input.now c.requires.input) in
    c.delay_evenly.ensures.line ∙ ap (λ fs. record c.args.line.now { items = pushed_all c.args.line.now fs }) coming

pub returns-clause-clips : goal.returns-clause-clips
returns-clause-clips c = record { counted = sym (even-clips c.args.self.now c.args.line.now.items (pieces (length c.args.self.now) c.args.count c.args.input.now)); bound = omega arith; small = omega arith }
