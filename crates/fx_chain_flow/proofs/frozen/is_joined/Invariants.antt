use Rattle.std.proofs.Common.{drop, ◌↔◌}
use Rattle.fx_chain_flow.specs.Parts.{Joined}
use Rattle.fx_chain_flow.proofs.frozen.is_joined.Given as goal

abbrev pub invariant-stages : goal.invariant-stages
invariant-stages g l = Joined g.S.Stage.acts l.left l.ended l.stages ↔ Joined g.S.Stage.acts l.given l.over (drop l.stage-index l.stages)
