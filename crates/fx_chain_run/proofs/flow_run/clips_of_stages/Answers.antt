use Rattle.std.proofs.Common.{ℕ, ◌+◌, ◌++◌, ◌-◌, map, replicate, arith, ap, sym, ◌∙◌}
use Rattle.std.proofs.lemmas.List.{length-map, take-map}
use Rattle.fx_chain_run.proofs.Running.{counts-more}
use Rattle.fx_chain_run.proofs.flow_run.clips_of_stages.Goals as goal

pub stages-preserved : goal.stages-preserved
stages-preserved g c =
    let clips : g.row.S.Denot → ℕ = λ s. (g.S.Stage.acts.counts s).clips in
    let count = length-map c.args.flow.now.stages clips in
    let old = c.stages.invariant ∙ ap (λ l. l ++ replicate (32 - c.stages.i) 0) (sym (take-map clips c.stages.i c.args.flow.now.stages)) in
    let test = rw (c.stages-i-end.ensures.value) at c.stages-test.true in
    counts-more _ (map clips c.args.flow.now.stages) c.stages.i _ old (omega (arith, count, test)) (omega (arith, count, c.requires)) c.clips.ensures.value
    ∙ ap (λ l. l ++ replicate (32 - (c.stages.i + 1)) 0) (take-map clips (c.stages.i + 1) c.args.flow.now.stages)
