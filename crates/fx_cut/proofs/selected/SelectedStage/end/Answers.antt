use Rattle.std.proofs.Common.{◌≡◌, ◌+◌, length, ap, ◌∙◌, arith}
use Rattle.fx_frame_base.specs.StageCore.{pending_frames}
use Rattle.fx_cut.proofs.PendingLemmas.{empty-pending}
use Rattle.fx_cut.proofs.SelectSteps.{IsSelect-over, given-due}
use Rattle.fx_cut.proofs.selected.SelectedStage.end.Goals as goal

pub invariant_of-self : goal.invariant_of-self
invariant_of-self g c =
    let is = c.self.invariant in
    let none : length (pending_frames c.self.inside.core) ≡ 0 = ap length (empty-pending c.self.inside.core.pending (rw (← c.self.view_is) at c.requires.dry)) in
    let due = given-due g.S.Selection.selects g.S.Selection.determined _ is (rw (← c.self.view_is) at c.requires.not_ended) in
    let within = is.within in
    let next = c.next_selected-next.ensures in
    let e : c.self.inside.core.given ≡ c.self.inside.core.given + length (pending_frames c.self.inside.core) = omega arith in
    rw (c.set_pending.ensures, c.end.ensures)
    (IsSelect-over g.S.Selection.selects _ _ _ c.self.inside.core.given is (omega arith) (e ∙ due) (rw c.taken-frames.ensures at next.given) next.empty next.bound next.pending next.line next.capacity next.channels)
