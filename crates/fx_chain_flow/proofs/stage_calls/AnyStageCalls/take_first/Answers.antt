use Rattle.std.proofs.Common.{arith}
use Rattle.fx_chain_flow.specs.StageCall.{MayTakeMany}
use Rattle.fx_chain_flow.proofs.Places.{At-inside}
use Rattle.fx_chain_flow.proofs.stage_calls.AnyStageCalls.take_first.Goals as goal

pub prove-unreachable-requires : goal.prove-unreachable-requires
prove-unreachable-requires g c = let h = At-inside (MayTakeMany g.S.Stage.acts c.args._channels c.args.count) 0 c.args.stages.now c.requires.may in omega (arith, h, c.if-prove.true)
