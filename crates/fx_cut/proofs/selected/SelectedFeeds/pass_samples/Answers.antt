use Rattle.std.proofs.Common.{◌∙◌, ◌+◌, add-zero, arith, refl, sym}
use Rattle.fx_frame_base.specs.declared.feed.Passing.TheVariants.{Kept, Through}
use Rattle.fx_frame_base.specs.Feed.{PassedOn}
use Rattle.fx_cut.specs.Selected.{IsSelectedState, selected_acts}
use Rattle.fx_cut.proofs.SelectPassing.{passed-given, passed-out, determined-select}
use Rattle.fx_cut.proofs.SelectSteps.{stayed, state}
use Rattle.fx_cut.proofs.selected.SelectedFeeds.pass_samples.Given as given
use Rattle.fx_cut.proofs.selected.SelectedFeeds.pass_samples.Goals as goal
use Rattle.fx_cut.proofs.selected.SelectedFeeds.pass_samples.Goals.{Then-not-select_over, Else-not-select_over}

-- the oldest falls out, and is not given
out : (g : given.Over) (c : Then-not-select_over g) → let s = state c.self.inside.core c.self.inside.line c.self.inside.selection in let t = stayed g.S.Selection.selects s c.push_over-is_out.new.line in
    PassedOn (selected_acts g.S.Selection.selects) Kept s t c.args.samples.now c.select_over.new.samples × IsSelectedState g.S.Selection.selects t
out g c =
    let may = rw (← c.self.view_is) at c.requires in
    let pushed = c.if-not-is_out.ensures in
    let left = rw (c.taken.ensures, c.len.ensures.count) at c.if-not-select_over.ensures.given in
    passed-out g.S.Selection.selects g.S.Selection.determined _ c.args.samples.now c.select_over.new.samples c.self.invariant may.dry may.not_ended may.not_spent c.push_over-is_out.new.line pushed.items c.len-held.ensures.line pushed.capacity pushed.channels may.below_limit c.push_over-is_out.new.samples (sym pushed.oldest) (sym left)

pub returns-then-not-select_over-clause-passed : goal.returns-then-not-select_over-clause-passed
returns-then-not-select_over-clause-passed g c = rw (c.if-not-select_over.ensures.same, ← c.self.view_is, c.take.ensures) (out g c).0

pub invariant_of-self-then-not-select_over : goal.invariant_of-self-then-not-select_over
invariant_of-self-then-not-select_over g c = rw (c.if-not-select_over.ensures.same, c.take.ensures) (out g c).1

pub returns-then-not-select_over-clause-determined : goal.returns-then-not-select_over-clause-determined
returns-then-not-select_over-clause-determined g c = λ none. rw (c.if-not-select_over.ensures.same, c.take.ensures) (determined-select g.S.Selection.selects _ (out g c).1 (rw (← c.self.view_is) at c.requires.not_ended) (rw c.take.ensures at none))

-- the oldest falls out, and is given
oldest : (g : given.Over) (c : Else-not-select_over g) → let s = state c.self.inside.core c.self.inside.line c.self.inside.selection in let t = record s { line = c.push_over-is_out.new.line; core = record s.core { taken = s.core.taken + 1; given = s.core.given + 1 } } in
    PassedOn (selected_acts g.S.Selection.selects) Through s t c.args.samples.now c.select_over.new.samples × IsSelectedState g.S.Selection.selects t
oldest g c =
    let may = rw (← c.self.view_is) at c.requires in
    let pushed = c.if-not-is_out.ensures in
    let delivered = c.if-not-select_over.ensures in
    let here = rw (c.taken.ensures, c.len.ensures.count) at delivered.given in
    let made = rw (c.taken.ensures, c.len.ensures.count) at (delivered.samples refl) in
    let framed = pushed.frame refl in
    let long = delivered.len in
    passed-given g.S.Selection.selects g.S.Selection.determined _ c.args.samples.now c.select_over.new.samples c.self.invariant may.dry may.not_ended may.not_spent c.push_over-is_out.new.line pushed.items c.len-held.ensures.line pushed.capacity pushed.channels may.below_limit c.push_over-is_out.new.samples c.select_over.new.samples (sym pushed.oldest) (sym here) made (long ∙ pushed.len ∙ may.channels)
    (record { some = omega (arith, framed.some, long); bound = omega (arith, framed.bound, long); fits = delivered.fit })

pub returns-clause-passed : goal.returns-clause-passed
returns-clause-passed g c = rw (c.if-not-select_over.ensures.same, ← c.self.view_is, c.give_made.ensures, c.take.ensures, add-zero c.self.inside.core.clips) (oldest g (goal.at.returns-clause-passed g c).Else-not-select_over).0

pub invariant_of-self-2 : goal.invariant_of-self-2
invariant_of-self-2 g c = rw (c.if-not-select_over.ensures.same, c.give_made.ensures, c.take.ensures, add-zero c.self.inside.core.clips) (oldest g (goal.at.invariant_of-self-2 g c).Else-not-select_over).1

pub returns-clause-determined : goal.returns-clause-determined
returns-clause-determined g c = λ none. rw (c.if-not-select_over.ensures.same, c.give_made.ensures, c.take.ensures, add-zero c.self.inside.core.clips) (determined-select g.S.Selection.selects _ (oldest g (goal.at.returns-clause-determined g c).Else-not-select_over).1 (rw (← c.self.view_is) at c.requires.not_ended) (rw (c.give_made.ensures, c.take.ensures) at none))
