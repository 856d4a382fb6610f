use Rattle.std.proofs.Common.{◌≡◌, ◌+◌, drop}
use Rattle.fx_chain_flow.specs.Parts.{given_of}
use Rattle.fx_chain_flow.proofs.moves.given_by_all.Given as goal

abbrev pub invariant-stages : goal.invariant-stages
invariant-stages g l = l.sum + given_of g.S.Stage.acts (drop l.stage-index l.stages) ≡ given_of g.S.Stage.acts l.stages
