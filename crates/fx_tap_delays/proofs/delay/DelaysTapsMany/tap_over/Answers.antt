-- All channels are delayed by as many frames as the line has places.
use Rattle.std.proofs.Common.{◌∙◌}
use Rattle.fx_tap_delays.proofs.Delaying.{even-one}
use Rattle.fx_tap_delays.proofs.delay.DelaysTapsMany.tap_over.Goals as goal

pub returns-then-all_are-clause-frame : goal.returns-then-all_are-clause-frame
returns-then-all_are-clause-frame c =
    let all = rw (c.deref.ensures.value, c.self.view_is, c.capacity.ensures.capacity) at c.all_are.ensures in
    c.delay_over.ensures.frame ∙ even-one c.args.self.now c.args.line.now c.args.samples.now (all c.if-all_are.true) c.capacity.ensures.line c.requires.line.channels c.requires.frame
