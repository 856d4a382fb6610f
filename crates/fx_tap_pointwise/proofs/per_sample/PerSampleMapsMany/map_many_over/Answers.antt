use Rattle.std.proofs.Common.{◌≡◌, ◌*◌, ◌∙◌, ap, arith, length, map, sym}
use Rattle.std.proofs.lemmas.List.{take_all}
use Rattle.fx_frame_base.specs.Lists.{pieces}
use Rattle.fx_frame_base.specs.Rounded.{clips_rounded}
use Rattle.fx_frame.proofs.SamplePieces.{clips-samples, pieces-samples}
use Rattle.fx_tap_pointwise.proofs.per_sample.PerSampleMapsMany.map_many_over.Goals as goal

pub returns-clause-frames : goal.returns-clause-frames
returns-clause-frames g c =
    let s = c.self.inside in
    rw (← c.self.view_is)
    (ap (pieces s.channels c.args._count) c.round_all.ensures.samples ∙ pieces-samples (g.S.Sampling.rounded s.sampling) s.channels c.args._count c.args.samples.now)

pub returns-clause-clips : goal.returns-clause-clips
returns-clause-clips g c =
    let s = c.self.inside in
    let f = g.S.Sampling.rounded s.sampling in
    let all : length c.args.samples.now ≡ c.args._count * s.channels = rw (← c.self.view_is) at c.requires.samples in
    let whole = take_all (c.args._count * s.channels) c.args.samples.now (omega (arith, all)) in
    rw (← c.self.view_is)
    (c.round_all.ensures.clips ∙ sym (ap (λ l. clips_rounded (map f l)) whole) ∙ clips-samples f s.channels c.args._count c.args.samples.now)
