use Rattle.std.proofs.Common.{add-one, arith}
use Rattle.fx_chain_flow.proofs.HandOvers.{IsFirstOpen-at, AllEnded-take}
use Rattle.fx_chain_flow.proofs.moves.first_open.Goals as goal

pub returns-then-not-ended : goal.returns-then-not-ended
returns-then-not-ended g c = IsFirstOpen-at g.S.Stage.acts c.stages.i c.args.stages.now c.index-stages-i.result (omega arith) (cc (c.is_ended-ended.ensures.value)) c.stages.invariant

pub stages-preserved : goal.stages-preserved
stages-preserved g c = rw add-one (AllEnded-take g.S.Stage.acts c.stages.i c.args.stages.now c.index-stages-i.result (omega arith) (cc (c.is_ended-ended.ensures.value)) c.stages.invariant)
