use Rattle.std.proofs.Common.{◌≡◌, ◌∙◌, map, get_or, arith}
use Rattle.std.proofs.lemmas.Grind.{common_steps}
use Rattle.fx_chain_flow.proofs.Steps.{clips-done}
use Rattle.fx_chain_flow.proofs.flow.Flow.clips.Goals as goal

pub returns-clause-done : goal.returns-clause-done
returns-clause-done g c =
    let v : c.clips.result ≡ get_or (map (λ s. (g.S.Stage.acts.counts s).clips) c.self.inside.stages.items) c.args.i 0 = grind (arith, common_steps) in
    rw (← c.self.view_is) (λ done. v ∙ clips-done g.S.Stage.acts _ c.args.i done)
