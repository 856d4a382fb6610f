use Rattle.std.proofs.Common.{◌≡◌, ◌<◌, ◌-◌, length, suc, arith}
use Rattle.fx_frame_base.specs.Feed.{IsHeld}
use Rattle.fx_chain_flow.proofs.Orders.{AllHeld-drop}
use Rattle.fx_chain_flow.proofs.moves.see_held.Goals as goal

pub stages-preserved : goal.stages-preserved
stages-preserved g c =
    let acts = g.S.Stage.acts in
    let e : c.stages.place ≡ suc (c.stages.place - 1) = omega (arith, c.stages-test.true) in
    let within : c.stages.place - 1 < length c.args.stages.now = omega (arith, c.stages-test.true, c.stages.auto.place) in
    let held : IsHeld acts c.index-stages-place.result = omega (arith, c.held-held.ensures.value, c.held-held.ensures.within) in
    AllHeld-drop acts (c.stages.place - 1) c.args.stages.now c.index-stages-place.result within (rw (← c.index-stages-place.is) held) (rw (← e) c.stages.invariant)
