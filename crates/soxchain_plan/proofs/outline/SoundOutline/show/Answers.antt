use Rattle.soxchain_plan.proofs.ShownLemmas.{sound_line-parts}
use Rattle.soxchain_plan.proofs.Writing.{appends_then}
use Rattle.soxchain_plan.proofs.outline.SoundOutline.show.Goals as goal

pub returns : goal.returns
returns g c = appends_then _ _ _ _ _ _ _ (sound_line-parts c.args.title.now c.name_of_kind-kind.result.now c.args.self.now c.name_of_kind-kind.ensures) c.in_ok-write.ensures.bytes c.show_frames.ensures
