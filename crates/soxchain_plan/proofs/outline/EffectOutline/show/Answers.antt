use Rattle.std.proofs.Common.{append_assoc}
use Rattle.soxchain_plan.proofs.Writing.{appends_then}
use Rattle.soxchain_plan.specs.Shown.{effect_line}
use Rattle.soxchain_plan.proofs.outline.EffectOutline.show.Goals as goal

pub returns : goal.returns
unfolding effect_line
returns g c = appends_then _ _ _ _ _ _ _ (simp (append_assoc, c.in_milliseconds-milliseconds.ensures)) c.in_ok-write.ensures.bytes c.show_frames.ensures
