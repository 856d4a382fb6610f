use Rattle.std.proofs.Common.{rules, ◌≡◌, ◌+◌, ◌<◌, ◌∷◌, [], ◌++◌, length, drop, take, arith, slice_index_or}
use Rattle.std.proofs.lemmas.Grind.{common_steps}
use Rattle.fx_frame_base.specs.Stage.{Freezes}
use Rattle.fx_chain_flow.proofs.Thawing.{AllMade-more, stored-more, numbers-more, ThawsOn-step, drop-next}
use Rattle.fx_chain_flow.proofs.frozen.thaw_all.Goals as goal

pub arguments-preserved : goal.arguments-preserved
arguments-preserved g c =
    let some : c.arguments.argument-index < length c.args.arguments.now = search rules in
    let item : slice_index_or c.args.arguments.now c.arguments.argument-index c.argument-item.result ≡ c.argument-item.result = search rules in
    let j = drop-next c.args.arguments.now c.arguments.argument-index c.argument-item.result some in
    let k : drop c.arguments.argument-index c.args.arguments.now ≡ c.argument-item.result ∷ drop (c.arguments.argument-index + 1) c.args.arguments.now = search rules in
    let out : c.push.new.self.items ≡ c.arguments.out.items ++ c.in_ok-stage.stage ∷ [] = search rules in
    let state_counters-is : c.in-Some.state_counters.now ≡ take 8 c.arguments.rest.now = search rules in
    let after-is : c.in-Some.after.now ≡ drop 8 c.arguments.rest.now = search rules in
    let mine-is : c.split_at.result.0.now ≡ take (slice_index_or c.in-Some.state_counters.now 4 0) c.arguments.later.now = search rules in
    let others-is : c.split_at.result.1.now ≡ drop (slice_index_or c.in-Some.state_counters.now 4 0) c.arguments.later.now = search rules in
    let frozen : Freezes g.S.Stage.acts c.in_ok-stage.stage c.split_at.result.0.now c.in-Some.state_counters.now = search rules in
    let later-is : c.arguments.later.now ≡ c.split_at.result.0.now ++ c.split_at.result.1.now = search rules in
    let rest-is : c.arguments.rest.now ≡ c.in-Some.state_counters.now ++ c.in-Some.after.now = search rules in
    rw out
    (record {
      made = AllMade-more g.S.Thaws.made c.args.arguments.now c.arguments.argument-index c.arguments.out.items c.argument-item.result c.argument-item.result c.in_ok-stage.stage some item c.arguments.invariant.made (search rules);
      stored = stored-more g.S.Stage.acts c.arguments.out.items c.in_ok-stage.stage c.args.frames.now c.arguments.later.now c.split_at.result.0.now c.split_at.result.1.now c.arguments.invariant.stored later-is frozen.stored;
      counted = numbers-more g.S.Stage.acts c.arguments.out.items c.in_ok-stage.stage c.args.numbers.now c.arguments.rest.now c.in-Some.state_counters.now c.in-Some.after.now c.arguments.invariant.counted rest-is frozen.counted;
      thaws = ThawsOn-step g.S.Stage.acts g.S.Stage.sound g.S.Thaws.made c.arguments.out.items c.argument-item.result (drop (c.arguments.argument-index + 1) c.args.arguments.now) c.arguments.later.now c.split_at.result.0.now c.split_at.result.1.now c.arguments.rest.now c.in-Some.state_counters.now c.in-Some.after.now c.in_ok-stage.stage
          state_counters-is after-is mine-is others-is (λ s k m f. search rules) c.args.arguments.now c.args.frames.now c.args.numbers.now (rw k at c.arguments.invariant.thaws);
    })

-- The prover finds these too, but searches long.
pub returns-in_default-clause-thawed : goal.returns-in_default-clause-thawed
returns-in_default-clause-thawed g c = grind (arith, common_steps)

pub returns-then-held-later-clause-thawed : goal.returns-then-held-later-clause-thawed
returns-then-held-later-clause-thawed g c = grind (arith, common_steps)

pub returns-in_err-stage-clause-thawed : goal.returns-in_err-stage-clause-thawed
returns-in_err-stage-clause-thawed g c = grind (arith, common_steps)

pub returns-then-not-is_empty-clause-thawed : goal.returns-then-not-is_empty-clause-thawed
returns-then-not-is_empty-clause-thawed g c = grind (arith, common_steps)

pub returns-clause-made : goal.returns-clause-made
returns-clause-made g c = grind (arith, common_steps)

pub returns-clause-stored : goal.returns-clause-stored
returns-clause-stored g c = grind (arith, common_steps)

pub returns-clause-counted : goal.returns-clause-counted
returns-clause-counted g c = grind (arith, common_steps)

pub returns-clause-thawed : goal.returns-clause-thawed
returns-clause-thawed g c = grind (arith, common_steps)
