use Rattle.std.proofs.Common.{refl}
use Rattle.fx_cut.proofs.SelectThaw.{IsSelect-thawed}
use Rattle.fx_cut.proofs.selected.Selected.thawed.Goals as goal

pub invariant_of-result : goal.invariant_of-result
invariant_of-result g c =
    let stored = rw c.channels-channels.ensures at c.in_ok-line.ensures.found in
    rw c.restored.ensures
    (IsSelect-thawed g.S.Selection.selects c.args.selection _ _ _ _ _ _ c.args.frames.now _ _ stored c.requires.reach c.if-taken-gt-MAX_TAKEN.false c.if-given-taken.false c.if-held-taken.false c.if-held-frames.false (c.if-not-is_count.ensures.count refl))
