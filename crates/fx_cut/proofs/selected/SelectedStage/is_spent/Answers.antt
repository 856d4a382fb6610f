use Rattle.std.proofs.Common.{◌∙◌, sym, arith, rules}
use Rattle.fx_frame_base.proofs.Flags.{none-of}
use Rattle.std.proofs.lemmas.Bool.{leb-true}
use Rattle.fx_cut.proofs.SelectSteps.{spent-rest}
use Rattle.fx_cut.proofs.selected.SelectedStage.is_spent.Goals as goal

pub returns-then-not-is_pending-clause-nothing : goal.returns-then-not-is_pending-clause-nothing
returns-then-not-is_pending-clause-nothing g c = λ enough z.
    let late = leb-true _ _ enough in
    rw (← c.self.view_is) (spent-rest g.S.Selection.selects g.S.Selection.determined _ _ c.self.invariant (none-of c.self.inside.core.pending (search rules)) (sym c.enough.ensures ∙ c.in-Some.is) (omega (arith, late, c.taken.ensures)) z)
