use Rattle.std.proofs.Common.{arith, take}
use Rattle.fx_chain_flow.specs.StageCall.{MayBePassed, WasPassed}
use Rattle.fx_chain_flow.proofs.Places.{At-get, At-inside, ChangedAt-set}
use Rattle.fx_chain_flow.proofs.stage_calls.AnyStageCalls.pass_at.Goals as goal

pub prove-unreachable-requires : goal.prove-unreachable-requires
prove-unreachable-requires g c = let h = At-inside (MayBePassed g.S.Stage.acts c.args.keeps c.args.channels.now) c.args.place c.args.stages.now c.requires.may in omega (arith, h, c.if-prove.true)

pub pass_to-requires-clause-dry : goal.pass_to-requires-clause-dry
pass_to-requires-clause-dry g c = let m = At-get (MayBePassed g.S.Stage.acts c.args.keeps c.args.channels.now) c.args.place c.args.stages.now c.index-stages-place.result c.requires.may in m.takes.dry

pub pass_to-requires-clause-not_ended : goal.pass_to-requires-clause-not_ended
pass_to-requires-clause-not_ended g c = let m = At-get (MayBePassed g.S.Stage.acts c.args.keeps c.args.channels.now) c.args.place c.args.stages.now c.index-stages-place.result c.requires.may in m.takes.not_ended

pub pass_to-requires-clause-not_spent : goal.pass_to-requires-clause-not_spent
pass_to-requires-clause-not_spent g c = let m = At-get (MayBePassed g.S.Stage.acts c.args.keeps c.args.channels.now) c.args.place c.args.stages.now c.index-stages-place.result c.requires.may in m.not_spent

pub pass_to-requires-clause-channels : goal.pass_to-requires-clause-channels
pass_to-requires-clause-channels g c = let m = At-get (MayBePassed g.S.Stage.acts c.args.keeps c.args.channels.now) c.args.place c.args.stages.now c.index-stages-place.result c.requires.may in m.takes.channels

pub pass_to-requires-clause-keep : goal.pass_to-requires-clause-keep
pass_to-requires-clause-keep g c = let m = At-get (MayBePassed g.S.Stage.acts c.args.keeps c.args.channels.now) c.args.place c.args.stages.now c.index-stages-place.result c.requires.may in m.keep

pub pass_to-requires-clause-below_limit : goal.pass_to-requires-clause-below_limit
pass_to-requires-clause-below_limit g c = let m = At-get (MayBePassed g.S.Stage.acts c.args.keeps c.args.channels.now) c.args.place c.args.stages.now c.index-stages-place.result c.requires.may in m.takes.below_limit

pub returns-clause-passed : goal.returns-clause-passed
returns-clause-passed g c =
    ChangedAt-set (WasPassed g.S.Stage.acts c.pass_to.result (take c.args.channels.now c.args.places.now) (take c.pass_to.new.channels c.pass_to.new.places)) c.args.place c.args.stages.now c.pass_to.new.stage c.index-stages-place.result c.if-prove.false (c.pass_to.ensures.passed, c.pass_to.ensures.determined)
