use Rattle.std.proofs.Common.{refl}
use Rattle.fx_frame_base.proofs.Places.{places-read}
use Rattle.fx_frame_base.proofs.frame.FrameOf.filled.Goals as goal

pub invariant_of-result : goal.invariant_of-result
invariant_of-result g c = (places-read g.T.Sample.Fits g.T.Sample.silent_sample c.args.samples.now _ c.requires.0 c.requires.1 refl (c.sample_or_zero.ensures, (c.sample_or_zero-2.ensures, (c.sample_or_zero-3.ensures, (c.sample_or_zero-4.ensures, (c.sample_or_zero-5.ensures, (c.sample_or_zero-6.ensures, (c.sample_or_zero-7.ensures, (c.sample_or_zero-8.ensures, (c.sample_or_zero-9.ensures, (c.sample_or_zero-10.ensures, (c.sample_or_zero-11.ensures, (c.sample_or_zero-12.ensures, (c.sample_or_zero-13.ensures, (c.sample_or_zero-14.ensures, (c.sample_or_zero-15.ensures, (c.sample_or_zero-16.ensures, tt))))))))))))))))).0

pub returns : goal.returns
returns g c = (places-read g.T.Sample.Fits g.T.Sample.silent_sample c.args.samples.now _ c.requires.0 c.requires.1 refl (c.sample_or_zero.ensures, (c.sample_or_zero-2.ensures, (c.sample_or_zero-3.ensures, (c.sample_or_zero-4.ensures, (c.sample_or_zero-5.ensures, (c.sample_or_zero-6.ensures, (c.sample_or_zero-7.ensures, (c.sample_or_zero-8.ensures, (c.sample_or_zero-9.ensures, (c.sample_or_zero-10.ensures, (c.sample_or_zero-11.ensures, (c.sample_or_zero-12.ensures, (c.sample_or_zero-13.ensures, (c.sample_or_zero-14.ensures, (c.sample_or_zero-15.ensures, (c.sample_or_zero-16.ensures, tt))))))))))))))))).1
