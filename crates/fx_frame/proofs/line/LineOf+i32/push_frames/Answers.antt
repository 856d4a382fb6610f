use Rattle.std.specs.Int.{w32}
use Rattle.fx_frame_line.proofs.ManyFrames.{frames-samples}
use Rattle.fx_frame.proofs.line.LineOf+i32.push_frames.Goals as goal

pub returns-clause-frames : goal.returns-clause-frames
returns-clause-frames c = frames-samples w32 c.args.self.now.channels c.args.count c.args.frames.now c.requires c.see_samples.ensures
