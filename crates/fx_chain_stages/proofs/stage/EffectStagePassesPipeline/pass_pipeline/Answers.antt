-- Three stages that frames went through, as a list of stages.
use Rattle.std.proofs.Common.{rules, ◌≡◌, [], ◌∷◌, arith, refl}
use Rattle.std.proofs.lemmas.Grind.{common_steps}
use Rattle.fx_frame_base.proofs.PipelineLaws.{PipelineThrough-none}
use Rattle.fx_frame_base.specs.Stage.{kind}
use Rattle.fx_chain_stages.specs.Stages.{effect_acts}
use Rattle.fx_chain_stages.proofs.stage.EffectStagePassesPipeline.pass_pipeline.Goals as goal

pub returns-then-not-is_empty-clause-through : goal.returns-then-not-is_empty-clause-through
returns-then-not-is_empty-clause-through c =
    let is : c.args.stages.now ≡ c.in-Some.first.now ∷ c.in-Some-split_first_mut.second.now ∷ c.in-Some-split_first_mut-2.third.now ∷ c.in-Some-split_first_mut-2.rest.now = search rules in
    rw (is) (PipelineThrough-none effect_acts (c.in-Some.first.now ∷ c.in-Some-split_first_mut.second.now ∷ c.in-Some-split_first_mut-2.third.now ∷ c.in-Some-split_first_mut-2.rest.now))

pub returns-clause-through : goal.returns-clause-through
returns-clause-through c =
    let none : c.in-Some-split_first_mut-2.rest.now ≡ [] = grind (arith, common_steps) in
    let all : c.args.stages.now ≡ c.in-Some.first.now ∷ c.in-Some-split_first_mut.second.now ∷ c.in-Some-split_first_mut-2.third.now ∷ c.in-Some-split_first_mut-2.rest.now = search rules in
    let is : c.args.stages.now ≡ c.in-Some.first.now ∷ c.in-Some-split_first_mut.second.now ∷ c.in-Some-split_first_mut-2.third.now ∷ [] = rw (none) at all in
    let went = c.pass_three.ensures.through in
    let ready = rw (is) at c.requires.ready.3 in
    let inputs : c.args.channels ≡ (kind effect_acts c.in-Some.first.now).inputs = ready.3 in
    let outputs : c.args.outputs ≡ (kind effect_acts c.in-Some-split_first_mut-2.third.now).outputs = rw (is) at c.requires.outputs in
    rw (is, none, inputs, outputs) (went.0, went.2, (went.1, went.3, (_, went.4, refl)))

pub returns-in_default-clause-through : goal.returns-in_default-clause-through
returns-in_default-clause-through c = grind (arith, common_steps)

pub pass_two-requires-clause-free : goal.pass_two-requires-clause-free
pass_two-requires-clause-free c = grind (arith, common_steps)

pub pass_three-requires-clause-free : goal.pass_three-requires-clause-free
pass_three-requires-clause-free c = grind (arith, common_steps)

pub returns-clause-frame : goal.returns-clause-frame
returns-clause-frame c = grind (arith, common_steps)

pub returns-clause-rest_unchanged : goal.returns-clause-rest_unchanged
returns-clause-rest_unchanged c = grind (arith, common_steps)
