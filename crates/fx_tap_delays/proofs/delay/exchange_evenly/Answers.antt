use Rattle.std.proofs.Common.{◌≤◌, ◌*◌, length, arith}
use Rattle.fx_tap_delays.proofs.Delaying.{even-exchanged}
use Rattle.fx_tap_delays.proofs.delay.exchange_evenly.Goals as goal

pub returns-then-all_are-clause-frames : goal.returns-then-all_are-clause-frames
returns-then-all_are-clause-frames c = λ is.
    let all = rw c.capacity.ensures.capacity at c.all_are.ensures in
    let delivered = c.exchange_frames.ensures in
    let both = delivered.when.0 is in
    let free : c.args.count * length c.args.delays.now ≤ length c.args.samples.now = omega (arith, c.requires.samples) in
    even-exchanged c.args.delays.now c.args.line.now c.args.count c.args.samples.now c.exchange_frames.new.frames (all c.if-all_are.true) c.len-held.ensures.line c.requires.channels free both.0 both.1 (delivered.oldest is)
