use Rattle.std.specs.List.{All}
use Rattle.fx_frame_line.proofs.ManyFrames.{All-pieces, All-pushed_all}
use Rattle.fx_frame.proofs.line.LineOf.put_frames.Goals as goal

pub invariant_of-self : goal.invariant_of-self
invariant_of-self g c =
    All-pushed_all (All g.T.Sample.Fits) c.self.inside.ring _ _ c.self.invariant (All-pieces g.T.Sample.Fits c.self.inside.ring.channels c.args.count c.args.frames.now c.requires.fits) c.push_frames.ensures.items
