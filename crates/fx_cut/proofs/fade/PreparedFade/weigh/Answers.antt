use Rattle.std.proofs.Common.{◌∙◌}
use Rattle.fx_cut.proofs.FadeWeights.{weight-maximum, product-maximum}
use Rattle.fx_cut.proofs.Weighing.{whole-left, whole-right}
use Rattle.fx_cut.proofs.fade.PreparedFade.weigh.Goals as goal

pub weigh_by-requires-clause-weight : goal.weigh_by-requires-clause-weight
weigh_by-requires-clause-weight c =
    rw (c.from.ensures, c.from-else-out_over-out_under.ensures, c.from-else-out_over-out_under-2.ensures, c.from-else-out_over-out_under-3.ensures, c.at-over.ensures, c.at-out_over.ensures)
    (product-maximum _ _ _ _ (weight-maximum c.self.inside.rise c.args.place) (weight-maximum c.self.inside.fall c.saturating_sub-left.result))

pub returns-then-over-under-clause-samples : goal.returns-then-over-under-clause-samples
returns-then-over-under-clause-samples c =
    let slopes = c.self.invariant.1 in
    let same = rw c.at-over.ensures at c.if-over-under.true in
    let rise = weight-maximum c.self.inside.rise c.args.place in
    let fall = weight-maximum c.self.inside.fall c.saturating_sub-left.result in
    rw (← c.self.view_is, c.in-Some.is, ← slopes.0, ← slopes.1, ← c.saturating_sub-left.ensures) (whole-left _ _ c.args.samples.now same rise.1 fall.1 ∙ c.weigh-then-over-under.ensures.samples)

pub returns-then-out_over-out_under-clause-samples :
    goal.returns-then-out_over-out_under-clause-samples
returns-then-out_over-out_under-clause-samples c =
    let slopes = c.self.invariant.1 in
    let same = rw c.at-out_over.ensures at c.if-out_over-out_under.true in
    let rise = weight-maximum c.self.inside.rise c.args.place in
    let fall = weight-maximum c.self.inside.fall c.saturating_sub-left.result in
    rw (← c.self.view_is, c.in-Some.is, ← slopes.0, ← slopes.1, ← c.saturating_sub-left.ensures) (whole-right _ _ c.args.samples.now same rise.1 fall.1 ∙ c.weigh-then-out_over-out_under.ensures.samples)
