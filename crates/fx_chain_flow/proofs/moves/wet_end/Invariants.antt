use Rattle.std.proofs.Common.{drop}
use Rattle.fx_chain_flow.specs.Parts.{AllDetermined}
use Rattle.fx_chain_flow.specs.Pipeline.{AllLined}
use Rattle.fx_chain_flow.proofs.moves.wet_end.Given as goal

abbrev pub invariant-stages : goal.invariant-stages
invariant-stages g l = record {
  dry : AllDetermined g.S.Stage.acts (drop l.place l.stages);
  lined : AllLined g.S.Stage.acts (drop l.place l.stages);
}
