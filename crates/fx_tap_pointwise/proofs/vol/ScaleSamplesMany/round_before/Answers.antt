use Rattle.std.proofs.Common.{◌≡◌, ◌∙◌, ap, map}
use Rattle.fx_frame_base.specs.Rounded.{clips_rounded}
use Rattle.fx_tap_pointwise.specs.Fractions.{Ratio, Rounds, fraction_sample}
use Rattle.fx_tap_pointwise.specs.Vol.{scaled_sample}
use Rattle.fx_tap_pointwise.proofs.vol.ScaleSamplesMany.round_before.Goals as goal

pub returns-in-Some-clause-first : goal.returns-in-Some-clause-first
returns-in-Some-clause-first g c =
    let proper : Ratio = c.in-Some.proper in
    let rounds : Rounds c.self.inside.gain proper = rw c.in-Some.is at c.self.invariant.1 in
    let same : fraction_sample proper ≡ scaled_sample c.self.inside.gain = λ i x. rounds x i in
    rw (← c.self.view_is) (c.round_after.ensures.first ∙ ap (λ f. clips_rounded (map f c.args.input.now)) same)

pub returns-in-Some-fraction-clause-first : goal.returns-in-Some-fraction-clause-first
returns-in-Some-fraction-clause-first g c =
    let fraction : Ratio = c.in-Some-fraction.fraction in
    let rounds : Rounds c.self.inside.gain fraction = rw c.in-Some-fraction.is at c.self.invariant.0 in
    let same : fraction_sample fraction ≡ scaled_sample c.self.inside.gain = λ i x. rounds x i in
    rw (← c.self.view_is) (c.round_after-in-Some-fraction.ensures.first ∙ ap (λ f. clips_rounded (map f c.args.input.now)) same)
