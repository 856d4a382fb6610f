use Rattle.std.proofs.Common.{take}
use Rattle.fx_chain_flow.specs.Parts.{AllEnded}
use Rattle.fx_chain_flow.proofs.moves.first_open.Given as goal

abbrev pub invariant-stages : goal.invariant-stages
invariant-stages g l = AllEnded g.S.Stage.acts (take l.i l.stages)
