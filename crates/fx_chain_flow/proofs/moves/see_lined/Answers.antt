use Rattle.std.proofs.Common.{◌≡◌, ◌<◌, ◌-◌, ◌∙◌, ap, length, suc, arith}
use Rattle.fx_chain_flow.proofs.HandOvers.{AllDetermined-at}
use Rattle.fx_chain_flow.proofs.Pipelines.{AllLined-drop}
use Rattle.fx_chain_flow.proofs.moves.see_lined.Goals as goal

pub stages-preserved : goal.stages-preserved
stages-preserved g c =
    let acts = g.S.Stage.acts in
    let e : c.stages.place ≡ suc (c.stages.place - 1) = omega (arith, c.stages-test.true) in
    let within : c.stages.place - 1 < length c.args.stages.now = omega (arith, c.stages-test.true, c.stages.auto.place) in
    let dry = AllDetermined-at acts (c.stages.place - 1) c.args.stages.now c.index-stages-place.result within c.requires in
    let lined = c.is_dry-dry.ensures.lined (c.is_dry-dry.ensures.value ∙ ap acts.dry c.index-stages-place.is ∙ dry) in
    AllLined-drop acts (c.stages.place - 1) c.args.stages.now c.index-stages-place.result within (rw (← c.index-stages-place.is) lined) (rw (← e) c.stages.invariant)
