-- A frame comes: it stays in the line, or the oldest falls out and is given or not.
use Rattle.fx_cut.proofs.SelectSteps.{Took-inside, Took-fallen, IsSelect-inside, IsSelect-fallen}
use Rattle.fx_cut.proofs.Fallen.{oldest-length}
use Rattle.fx_cut.proofs.selected.SelectedStage.take.Goals as goal

pub returns-in_default : goal.returns-in_default
returns-in_default g c =
    rw (← c.self.view_is, c.take.ensures)
    (Took-inside g.S.Selection.selects g.S.Selection.determined _ c.args.frame c.self.invariant (rw (← c.self.view_is) at c.requires.dry) (rw (← c.self.view_is) at c.requires.not_ended) _ c.in_default.ensures.oldest c.in_default.ensures.items)

pub invariant_of-self : goal.invariant_of-self
invariant_of-self g c =
    rw c.take.ensures
    (IsSelect-inside g.S.Selection.selects g.S.Selection.determined _ c.args.frame c.self.invariant (rw (← c.self.view_is) at c.requires.dry) (rw (← c.self.view_is) at c.requires.not_ended) _ c.in_default.ensures.oldest c.in_default.ensures.items
    c.len-held.ensures.line c.in_default.ensures.capacity c.in_default.ensures.channels (rw (← c.self.view_is) at c.requires.below_limit))

pub invariant_of-self-2 : goal.invariant_of-self-2
invariant_of-self-2 g c =
    let dry = rw (← c.self.view_is) at c.requires.dry in
    let running = rw (← c.self.view_is) at c.requires.not_ended in
    let delivered = c.select.ensures in
    let kept = rw (c.taken-taken.ensures, c.len.ensures.count) at delivered.value in
    let long = oldest-length _ _ c.args.frame c.in-Some.oldest c.self.invariant.line c.self.invariant.channels c.in-Some.ensures.oldest (rw (← c.self.view_is) at c.requires.channels) in
    let fits = rw long at delivered.fits in
    rw (delivered.same, c.set_pending.ensures, c.take.ensures)
    (IsSelect-fallen g.S.Selection.selects g.S.Selection.determined _ c.args.frame c.self.invariant dry running _ c.in-Some.oldest _ c.in-Some.ensures.oldest c.in-Some.ensures.items
    c.len-held.ensures.line c.in-Some.ensures.capacity c.in-Some.ensures.channels (rw (← c.self.view_is) at c.requires.below_limit) kept fits)

pub returns : goal.returns
returns g c =
    let delivered = c.select.ensures in
    let kept = rw (c.taken-taken.ensures, c.len.ensures.count) at delivered.value in
    rw (delivered.same, ← c.self.view_is, c.set_pending.ensures, c.take.ensures)
    (Took-fallen g.S.Selection.selects g.S.Selection.determined _ c.args.frame c.self.invariant (rw (← c.self.view_is) at c.requires.dry) (rw (← c.self.view_is) at c.requires.not_ended) _ c.in-Some.oldest _ c.in-Some.ensures.oldest c.in-Some.ensures.items kept)
