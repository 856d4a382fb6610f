use Rattle.std.proofs.Common.{add-zero, arith, sym}
use Rattle.fx_cut.specs.Fade.{weights}
use Rattle.fx_cut.specs.FadeState.{stop_determined}
use Rattle.fx_cut.proofs.FadeWeights.{weights-some}
use Rattle.fx_cut.proofs.Weighing.{given-plain, whole-frame}
use Rattle.fx_cut.proofs.fade.PreparedFadeSelection.select_over.Goals as goal

pub returns-then-flat_from-gt0-clause-samples : goal.returns-then-flat_from-gt0-clause-samples
returns-then-flat_from-gt0-clause-samples c = λ given.
    let whole = c.flat_from.ensures.whole 0 (omega (arith, c.if-flat_from-gt0.true)) in
    let f = c.args.self.now.shape in
    let stop = stop_determined f c.args.place in
    sym (given-plain _ c.args.samples.now (whole-frame c.args.samples.now (weights f stop c.args.place) (rw add-zero at whole) (weights-some f stop c.args.place) c.requires.fit))

pub returns-clause-samples : goal.returns-clause-samples
returns-clause-samples c = λ given. sym (given-plain _ c.weigh_sloped.new.samples (c.weigh_sloped.ensures.samples given))
