use Rattle.std.proofs.Common.{◌≡◌, ◌-◌, suc, arith}
use Rattle.fx_frame_base.specs.Feed.{IsNoneDue}
use Rattle.fx_chain_flow.proofs.PieceLaws.{AllOneToOne-drop, AllOneToOne-less}
use Rattle.fx_chain_flow.proofs.Places.{At-got}
use Rattle.fx_chain_flow.proofs.Running.{AllAhead-drop, AllAhead-less}
use Rattle.fx_chain_flow.proofs.runs.min_forecast.Goals as goal

pub stages-preserved : goal.stages-preserved
stages-preserved g c =
    let acts = g.S.Stage.acts in
    let place = c.stages.place - 1 in
    let e : c.stages.place ≡ suc place = omega (arith, c.stages-test.true) in
    let later = AllAhead-less acts c.min-ahead.result c.stages.ahead _ (omega (arith, c.min-ahead.ensures)) c.stages.invariant.ahead in
    let more = AllOneToOne-less acts c.min-one_to_one.result c.stages.one_to_one _ (omega (arith, c.min-one_to_one.ensures)) c.stages.invariant.one_to_one in
    record {
      bound = omega (arith, c.min-ahead.ensures, c.stages.invariant.bound);
      ahead = AllAhead-drop acts place c.min-ahead.result c.args.stages.now c.index-stages-place.result (omega (arith, c.stages-test.true, c.stages.auto.place)) (λ n h. rw (← c.index-stages-place.is) (c.forecast-next.ensures.ahead n (omega (arith, c.min-ahead.ensures, h)))) (rw (← e) later);
      one_to_one = AllOneToOne-drop acts place c.min-one_to_one.result c.args.stages.now c.index-stages-place.result (omega (arith, c.stages-test.true, c.stages.auto.place)) (λ n h. rw (← c.index-stages-place.is) (c.forecast-next.ensures.one_to_one n (omega (arith, c.min-one_to_one.ensures, h)))) (rw (← e) more);
      none_due = λ some. At-got (IsNoneDue acts c.forecast-next.result.none_due) place c.args.stages.now c.index-stages-place.result (omega (arith, c.stages-test.true, c.stages.auto.place)) (rw (← c.index-stages-place.is) c.forecast-next.ensures.none_due);
    }
