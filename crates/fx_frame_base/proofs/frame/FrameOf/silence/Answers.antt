use Rattle.std.proofs.Common.{◌∙◌, ap, refl, replicate}
use Rattle.std.proofs.lemmas.List.{take-replicate, drop-replicate}
use Rattle.std.proofs.lemmas.List.Elements.{All-replicate}
use Rattle.fx_frame_base.proofs.frame.FrameOf.silence.Goals as goal

pub invariant_of-result : goal.invariant_of-result
invariant_of-result g c = record {
  some = c.requires.0;
  bound = c.requires.1;
  count = refl;
  rest = drop-replicate c.args.channels 16 c.zero.result ∙ ap (replicate _) c.zero.ensures.is;
  fits = All-replicate g.T.Sample.Fits 16 c.zero.result c.zero.ensures.fits;
}

pub returns : goal.returns
returns g c = take-replicate c.args.channels 16 c.zero.result c.requires.1 ∙ ap (replicate _) c.zero.ensures.is
