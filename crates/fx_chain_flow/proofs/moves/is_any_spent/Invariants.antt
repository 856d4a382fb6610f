use Rattle.std.proofs.Common.{◌≡◌, drop}
use Rattle.fx_chain_flow.specs.Parts.{any_spent}
use Rattle.fx_chain_flow.proofs.moves.is_any_spent.Given as goal

abbrev pub invariant-stages : goal.invariant-stages
invariant-stages g l = any_spent g.S.Stage.acts l.stages ≡ any_spent g.S.Stage.acts (drop l.i l.stages)
