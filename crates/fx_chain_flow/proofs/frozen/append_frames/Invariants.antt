use Rattle.std.proofs.Common.{◌≡◌, ◌++◌, drop}
use Rattle.fx_chain_flow.specs.Frozen.{stored_all}
use Rattle.fx_chain_flow.proofs.frozen.append_frames.Given as goal

abbrev pub invariant-stages : goal.invariant-stages
invariant-stages g l = l.out.items ++ stored_all g.S.Stage.acts (drop l.stage-index l.stages) ≡ l.initial.out.items ++ stored_all g.S.Stage.acts l.stages
