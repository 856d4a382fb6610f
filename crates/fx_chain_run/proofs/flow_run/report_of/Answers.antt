use Rattle.std.proofs.Common.{add-zero}
use Rattle.fx_chain_run.proofs.Reaching.{givens-due}
use Rattle.fx_chain_run.proofs.flow_run.report_of.Goals as goal

pub returns-clause-due : goal.returns-clause-due
returns-clause-due g c = λ hungry.
    let acts = g.S.Stage.acts in
    let stages = c.stages-stages.ensures in
    rw (hungry.empty, add-zero) (givens-due acts _ _ c.args.flow.now.stages hungry.not_ended (stages.determined hungry) stages.sound.joined)
