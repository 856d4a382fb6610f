use Rattle.fx_cut.proofs.FadeWeights.{weight-maximum}
use Rattle.fx_cut.proofs.Weighing.{whole-frame}
use Rattle.fx_cut.proofs.slopes.Slope.weigh.Goals as goal

pub returns-then-over-under-clause-samples : goal.returns-then-over-under-clause-samples
returns-then-over-under-clause-samples c =
    let same = rw c.at-over.ensures at c.if-over-under.true in
    whole-frame c.args.samples.now _ same (weight-maximum c.args.self.now c.args.parts).1 c.requires.fit
