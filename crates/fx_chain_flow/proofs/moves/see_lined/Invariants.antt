use Rattle.std.proofs.Common.{drop}
use Rattle.fx_chain_flow.specs.Pipeline.{AllLined}
use Rattle.fx_chain_flow.proofs.moves.see_lined.Given as goal

abbrev pub invariant-stages : goal.invariant-stages
invariant-stages g l = AllLined g.S.Stage.acts (drop l.place l.stages)
