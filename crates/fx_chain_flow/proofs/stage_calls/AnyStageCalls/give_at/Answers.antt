use Rattle.std.proofs.Common.{arith}
use Rattle.fx_chain_flow.specs.StageCall.{GaveWithin, MayGive}
use Rattle.fx_chain_flow.proofs.Places.{At-get, At-inside, ChangedAt-set}
use Rattle.fx_chain_flow.proofs.stage_calls.AnyStageCalls.give_at.Goals as goal

pub prove-unreachable-requires : goal.prove-unreachable-requires
prove-unreachable-requires g c = let h = At-inside (MayGive g.S.Stage.acts) c.args.place c.args.stages.now c.requires in omega (arith, h, c.if-prove.true)

pub unreachable-requires : goal.unreachable-requires
unreachable-requires g c =
    let wet = At-get (MayGive g.S.Stage.acts) c.args.place c.args.stages.now c.index-stages-place.result c.requires in
    let dry = c.in_default.ensures.0 in
    absurd (cc (wet, dry))

pub returns-clause-gave : goal.returns-clause-gave
returns-clause-gave g c = ChangedAt-set (GaveWithin g.S.Stage.acts c.in-Some.frame) c.args.place c.args.stages.now c.give.new.self c.index-stages-place.result c.if-prove.false (c.in-Some.ensures, omega (arith, c.held-held.ensures.value, c.held-held.ensures.within))
