use Rattle.std.proofs.Common.{◌∙◌, refl}
use Rattle.fx_frame.proofs.SamplePieces.{clips-samples}
use Rattle.fx_tap_pointwise.proofs.Blocks.{pieces-rounded}
use Rattle.fx_tap_pointwise.proofs.per_sample.PerSampleMapsMany.map_many.Goals as goal

pub returns-clause-frames : goal.returns-clause-frames
returns-clause-frames g c =
    rw (← c.self.view_is)
    (pieces-rounded (g.S.Sampling.rounded c.self.inside.sampling) c.self.inside.channels c.args.count c.args.input.now c.round_many.new.output _ _ (rw (← c.self.view_is) at c.requires.input) c.round_many.ensures.samples refl)

pub returns-clause-clips : goal.returns-clause-clips
returns-clause-clips g c =
    rw (← c.self.view_is) (c.round_many.ensures.clips ∙ clips-samples (g.S.Sampling.rounded c.self.inside.sampling) c.self.inside.channels c.args.count c.args.input.now)
