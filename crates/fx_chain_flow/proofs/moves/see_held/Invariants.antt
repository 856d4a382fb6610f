use Rattle.std.proofs.Common.{drop}
use Rattle.fx_chain_flow.specs.Pipeline.{AllHeld}
use Rattle.fx_chain_flow.proofs.moves.see_held.Given as goal

abbrev pub invariant-stages : goal.invariant-stages
invariant-stages g l = AllHeld g.S.Stage.acts (drop l.place l.stages)
