use Rattle.std.proofs.Common.{arith, length}
use Rattle.fx_chain_flow.specs.StageCall.{MayTake, TookWithin}
use Rattle.fx_chain_flow.proofs.Places.{At-get, At-inside, ChangedAt-set}
use Rattle.fx_chain_flow.proofs.stage_calls.AnyStageCalls.take_at.Goals as goal

pub prove-unreachable-requires : goal.prove-unreachable-requires
prove-unreachable-requires g c = let h = At-inside (MayTake g.S.Stage.acts (length c.args.frame)) c.args.place c.args.stages.now c.requires in omega (arith, h, c.if-prove.true)

pub take-requires-clause-dry : goal.take-requires-clause-dry
take-requires-clause-dry g c = let m = At-get (MayTake g.S.Stage.acts (length c.args.frame)) c.args.place c.args.stages.now c.index-stages-place.result c.requires in m.dry

pub take-requires-clause-not_ended : goal.take-requires-clause-not_ended
take-requires-clause-not_ended g c = let m = At-get (MayTake g.S.Stage.acts (length c.args.frame)) c.args.place c.args.stages.now c.index-stages-place.result c.requires in m.not_ended

pub take-requires-clause-channels : goal.take-requires-clause-channels
take-requires-clause-channels g c = let m = At-get (MayTake g.S.Stage.acts (length c.args.frame)) c.args.place c.args.stages.now c.index-stages-place.result c.requires in m.channels

pub take-requires-clause-below_limit : goal.take-requires-clause-below_limit
take-requires-clause-below_limit g c = let m = At-get (MayTake g.S.Stage.acts (length c.args.frame)) c.args.place c.args.stages.now c.index-stages-place.result c.requires in m.below_limit

pub returns-clause-took : goal.returns-clause-took
returns-clause-took g c = ChangedAt-set (TookWithin g.S.Stage.acts c.args.frame) c.args.place c.args.stages.now c.take.new.self c.index-stages-place.result c.if-prove.false (c.take.ensures, omega (arith, c.held-held.ensures.value, c.held-held.ensures.within))
