use Rattle.std.proofs.Common.{arith}
use Rattle.fx_frame_base.specs.Lists.{pieces}
use Rattle.fx_chain_flow.specs.StageCall.{MayBePassedMany, WasPassedMany}
use Rattle.fx_chain_flow.proofs.Places.{At-get, At-inside, ChangedAt-set}
use Rattle.fx_chain_flow.proofs.stage_calls.AnyStageCalls.pass_frames_at.Goals as goal

pub prove-unreachable-requires : goal.prove-unreachable-requires
prove-unreachable-requires g c = let h = At-inside (MayBePassedMany g.S.Stage.acts c.args._channels c.args.count) c.args.place c.args.stages.now c.requires.may in omega (arith, h, c.if-prove.true)

pub pass_frames-requires-clause-dry : goal.pass_frames-requires-clause-dry
pass_frames-requires-clause-dry g c = let m = At-get (MayBePassedMany g.S.Stage.acts c.args._channels c.args.count) c.args.place c.args.stages.now c.index-stages-place.result c.requires.may in m.dry

pub pass_frames-requires-clause-not_ended : goal.pass_frames-requires-clause-not_ended
pass_frames-requires-clause-not_ended g c = let m = At-get (MayBePassedMany g.S.Stage.acts c.args._channels c.args.count) c.args.place c.args.stages.now c.index-stages-place.result c.requires.may in m.not_ended

pub pass_frames-requires-clause-one_to_one : goal.pass_frames-requires-clause-one_to_one
pass_frames-requires-clause-one_to_one g c = let m = At-get (MayBePassedMany g.S.Stage.acts c.args._channels c.args.count) c.args.place c.args.stages.now c.index-stages-place.result c.requires.may in m.one_to_one

pub pass_frames-requires-clause-ahead : goal.pass_frames-requires-clause-ahead
pass_frames-requires-clause-ahead g c = let m = At-get (MayBePassedMany g.S.Stage.acts c.args._channels c.args.count) c.args.place c.args.stages.now c.index-stages-place.result c.requires.may in m.ahead

pub pass_frames-requires-clause-frame : goal.pass_frames-requires-clause-frame
pass_frames-requires-clause-frame g c = let m = At-get (MayBePassedMany g.S.Stage.acts c.args._channels c.args.count) c.args.place c.args.stages.now c.index-stages-place.result c.requires.may in rw (← m.inputs) c.requires.frame

pub pass_frames-requires-clause-same_channels : goal.pass_frames-requires-clause-same_channels
pass_frames-requires-clause-same_channels g c = let m = At-get (MayBePassedMany g.S.Stage.acts c.args._channels c.args.count) c.args.place c.args.stages.now c.index-stages-place.result c.requires.may in m.outputs

pub pass_frames-requires-clause-samples : goal.pass_frames-requires-clause-samples
pass_frames-requires-clause-samples g c = let m = At-get (MayBePassedMany g.S.Stage.acts c.args._channels c.args.count) c.args.place c.args.stages.now c.index-stages-place.result c.requires.may in rw (← m.inputs) c.requires.samples

pub pass_frames-requires-clause-below_limit : goal.pass_frames-requires-clause-below_limit
pass_frames-requires-clause-below_limit g c = let m = At-get (MayBePassedMany g.S.Stage.acts c.args._channels c.args.count) c.args.place c.args.stages.now c.index-stages-place.result c.requires.may in m.below_limit

pub returns-clause-passed : goal.returns-clause-passed
returns-clause-passed g c =
    let m = At-get (MayBePassedMany g.S.Stage.acts c.args._channels c.args.count) c.args.place c.args.stages.now c.index-stages-place.result c.requires.may in
    ChangedAt-set (WasPassedMany g.S.Stage.acts (pieces c.args._channels c.args.count c.args.samples.now) (pieces c.args._channels c.args.count c.pass_frames.new.samples)) c.args.place c.args.stages.now c.pass_frames.new.self c.index-stages-place.result c.if-prove.false (rw (← m.inputs) at c.pass_frames.ensures.through, c.pass_frames.ensures.lined)
