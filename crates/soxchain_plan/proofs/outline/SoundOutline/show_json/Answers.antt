use Rattle.soxchain_plan.proofs.ShownLemmas.{sound_json-parts}
use Rattle.soxchain_plan.proofs.Writing.{appends_then}
use Rattle.soxchain_plan.proofs.outline.SoundOutline.show_json.Goals as goal

pub returns : goal.returns
returns g c = appends_then _ _ _ _ _ _ _ (sound_json-parts c.name_of_kind-kind.result.now c.args.self.now c.name_of_kind-kind.ensures) c.in_ok-write.ensures.bytes c.show_json_frames.ensures
