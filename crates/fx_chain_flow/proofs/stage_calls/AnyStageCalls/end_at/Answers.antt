use Rattle.std.proofs.Common.{arith}
use Rattle.fx_chain_flow.specs.StageCall.{EndedWithin, MayEnd}
use Rattle.fx_chain_flow.proofs.Places.{At-get, At-inside, ChangedAt-set}
use Rattle.fx_chain_flow.proofs.stage_calls.AnyStageCalls.end_at.Goals as goal

pub prove-unreachable-requires : goal.prove-unreachable-requires
prove-unreachable-requires g c = let h = At-inside (MayEnd g.S.Stage.acts) c.args.place c.args.stages.now c.requires in omega (arith, h, c.if-prove.true)

pub end-requires-clause-dry : goal.end-requires-clause-dry
end-requires-clause-dry g c = let m = At-get (MayEnd g.S.Stage.acts) c.args.place c.args.stages.now c.index-stages-place.result c.requires in m.0

pub end-requires-clause-not_ended : goal.end-requires-clause-not_ended
end-requires-clause-not_ended g c = let m = At-get (MayEnd g.S.Stage.acts) c.args.place c.args.stages.now c.index-stages-place.result c.requires in m.1

pub returns-clause-ended : goal.returns-clause-ended
returns-clause-ended g c = ChangedAt-set (EndedWithin g.S.Stage.acts) c.args.place c.args.stages.now c.end.new.self c.index-stages-place.result c.if-prove.false (c.end.ensures, omega (arith, c.held-held.ensures.value, c.held-held.ensures.within))
