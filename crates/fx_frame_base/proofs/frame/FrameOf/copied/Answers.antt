use Rattle.std.proofs.Common.{refl}
use Rattle.fx_frame_base.proofs.Places.{places-set}
use Rattle.fx_frame_base.proofs.frame.FrameOf.copied.Goals as goal

pub invariant_of-result : goal.invariant_of-result
invariant_of-result g c =
    rw (c.copy_from_slice.ensures.after, c.zero-places.ensures.is) (places-set g.T.Sample.Fits g.T.Sample.silent_sample (rw c.zero-places.ensures.is at c.zero-places.ensures.fits) c.args.samples.now _ refl c.requires.len.0 c.requires.len.1 c.requires.fits)
