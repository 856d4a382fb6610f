use Rattle.std.proofs.Common.{arith}
use Rattle.fx_chain_flow.proofs.HandOvers.{through-silent}
use Rattle.fx_chain_flow.proofs.moves.is_any_spent.Goals as goal

pub returns-then-spent-clause-same : goal.returns-then-spent-clause-same
returns-then-spent-clause-same g c = λ e. through-silent g.S.Stage.acts c.stages.i c.args.stages.now c.index-stages-i.result (omega arith) (rw (← c.index-stages-i.is) (c.is_spent-spent.ensures.nothing c.if-spent.true))
