use Rattle.std.proofs.Common.{append_assoc}
use Rattle.soxchain_plan.proofs.Writing.{appends_then}
use Rattle.soxchain_plan.specs.Shown.{effect_json}
use Rattle.soxchain_plan.proofs.outline.EffectOutline.show_json.Goals as goal

pub returns : goal.returns
unfolding effect_json
returns g c = appends_then _ _ _ _ _ _ _ (simp append_assoc) (rw c.in_milliseconds-milliseconds.ensures at c.in_ok-write.ensures.bytes) c.show_json_frames.ensures
