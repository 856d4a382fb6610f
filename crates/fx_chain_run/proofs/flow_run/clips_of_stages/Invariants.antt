use Rattle.std.proofs.Common.{◌≡◌, ◌-◌, ◌++◌, map, take, replicate}
use Rattle.fx_chain_run.proofs.flow_run.clips_of_stages.Given as goal

abbrev pub invariant-stages : goal.invariant-stages
invariant-stages g l = l.clips ≡ map (λ s. (g.S.Stage.acts.counts s).clips) (take l.i l.flow.stages) ++ replicate (32 - l.i) 0
