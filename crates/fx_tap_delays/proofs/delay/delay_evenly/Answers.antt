use Rattle.std.proofs.Common.{◌≤◌, ◌*◌, ◌-◌, ◌++◌, length, arith}
use Rattle.fx_frame_base.specs.Lists.{pieces}
use Rattle.fx_tap_delays.proofs.Delaying.{even-rest_unchanged, even-frames}
use Rattle.fx_tap_delays.proofs.delay.delay_evenly.Goals as goal

pub returns-clause-frames : goal.returns-clause-frames
returns-clause-frames c =
    let bound : c.min-silent_frames.result ≤ c.args.count = omega arith in
    let all : c.args.count * c.args.line.now.channels ≤ length c.args.frames.now = omega arith in
    let made = c.oldest_into.ensures.frames c.args.count all (omega arith) in
    rw (← c.requires.channels) (even-frames c.args.channels c.min-silent_frames.result c.args.count c.args.output.now c.write_silence.new.output c.oldest_into.new.out bound c.write_silence.ensures (c.args.line.now.items ++ pieces c.args.channels c.args.count c.args.frames.now) (c.args.line.now.capacity - length c.args.line.now.items) (omega arith) (rw (← c.requires.channels) at made))

pub returns-clause-rest_unchanged : goal.returns-clause-rest_unchanged
returns-clause-rest_unchanged c =
    let bound : c.min-silent_frames.result ≤ c.args.count = omega arith in
    rw (← c.requires.channels) (even-rest_unchanged c.args.channels c.min-silent_frames.result c.args.count c.args.output.now c.write_silence.new.output c.oldest_into.new.out bound c.write_silence.ensures (rw (← c.requires.channels) at c.oldest_into.ensures.rest_unchanged))
