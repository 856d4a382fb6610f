use Rattle.std.proofs.Common.{drop}
use Rattle.fx_frame_base.specs.Holds.{kinds}
use Rattle.fx_chain_flow.specs.Runs.{AllKeep}
use Rattle.fx_chain_flow.proofs.runs.keeps_channels.Given as goal

abbrev pub invariant-stages : goal.invariant-stages
invariant-stages g l = AllKeep l.channels (kinds g.S.Stage.acts (drop l.place l.stages))
