use Rattle.std.proofs.Common.{append_assoc}
use Rattle.soxchain_plan.proofs.Writing.{appends_then}
use Rattle.std.proofs.KnownBytes.{Appends-trans}
use Rattle.soxchain_plan.proofs.outline.Outline.show_text.Goals as goal

pub returns : goal.returns
returns g c =
    appends_then _ _ _ _ _ _ _ (simp append_assoc)
    (Appends-trans _ _ _ _ _ (Appends-trans _ _ _ _ _ (Appends-trans _ _ _ _ _ (Appends-trans _ _ _ _ _ (Appends-trans _ _ _ _ _ c.in_ok-show.ensures (rw c.deref.ensures.value at c.in_ok-show_effects.ensures)) c.in_ok-writeln.ensures.bytes) c.in_ok-show-2.ensures) c.in_ok-show_emptiness.ensures) c.in_ok-show_size.ensures)
    c.show_beyond.ensures
