use Rattle.std.proofs.Common.{◌≡◌, ◌*◌, ◌∙◌, ap, arith, map, sym}
use Rattle.std.proofs.lemmas.List.{take_all}
use Rattle.fx_frame_base.specs.Lists.{pieces}
use Rattle.fx_frame_base.specs.Rounded.{clips_rounded}
use Rattle.fx_frame.proofs.SamplePieces.{clips-samples, pieces-samples}
use Rattle.fx_tap_pointwise.proofs.per_sample.PerSampleMapsMany.map_group.Goals as goal

pub returns-clause-frames : goal.returns-clause-frames
returns-clause-frames g c =
    let s = c.self.inside in
    let same : c.args._widths.outputs ≡ c.args._widths.inputs = c.requires.outputs ∙ sym c.requires.inputs in
    rw (← c.self.view_is, same)
    (ap (pieces c.args._widths.inputs c.args._count) c.round_many.ensures.samples ∙ pieces-samples (g.S.Sampling.rounded s.sampling) c.args._widths.inputs c.args._count c.args.input.now)

pub returns-clause-clips : goal.returns-clause-clips
returns-clause-clips g c =
    let s = c.self.inside in
    let f = g.S.Sampling.rounded s.sampling in
    let ins = c.args._widths.inputs in
    let whole = take_all (c.args._count * ins) c.args.input.now (omega (arith, c.requires.input)) in
    rw (← c.self.view_is)
    (c.round_many.ensures.clips ∙ sym (ap (λ l. clips_rounded (map f l)) whole) ∙ clips-samples f ins c.args._count c.args.input.now)
