use Rattle.std.proofs.Common.{rules, ◌≡◌, ◌∙◌, ◌*◌, ◌≤◌, [], refl, arith}
use Rattle.std.proofs.Math.Nat.{mul-le-mul_left, mul-le-mul_right}
use Rattle.fx_frame_base.specs.Lists.{pieces}
use Rattle.fx_frame_base.proofs.Pieces.{length-pieces}
use Rattle.fx_frame_base.proofs.Puts.{pieces-take}
use Rattle.fx_chain_flow.specs.Runs.{flow_of}
use Rattle.fx_chain_flow.specs.Sound.{max_frames}
use Rattle.fx_chain_flow.proofs.Orders.{AllHeld-pipeline, early-order, through-order}
use Rattle.fx_chain_flow.proofs.PieceLaws.{AllOneToOne-less}
use Rattle.fx_chain_flow.proofs.PipelineRuns.{AreReady-run, RanOn-pipeline}
use Rattle.fx_chain_flow.proofs.Pipelines.{AllHeld-lined}
use Rattle.fx_chain_flow.proofs.TakenFirst.{AllHeld-taken, RanOn-taken, first-may-take}
use Rattle.fx_chain_flow.proofs.Running.{AllAhead-less, outputs-keep}
use Rattle.fx_chain_flow.proofs.runs.run_apart.Goals as goal

pub take_first-requires-clause-may : goal.take_first-requires-clause-may
take_first-requires-clause-may g c =
    let acts = g.S.Stage.acts in
    let first = c.none_due_of_first-none_due.ensures in
    let count = c.none_due_of_first-none_due.result in
    let left = c.requires.may.may_run.0 in
    let may = c.requires.may.may_run.1 in
    let some : 1 ≤ count = omega (arith, c.if-none_due-gt0.true) in
    let ready = AreReady-run acts c.args.widths.inputs c.args.next.ahead left c.args.stages.now may (omega (arith, some, first.maximum)) c.requires.may.determined c.requires.may.ahead in
    first-may-take acts c.args.widths.inputs count left c.args.stages.now ready (omega (arith, may.bound, first.maximum)) (AllAhead-less acts count c.args.next.ahead c.args.stages.now first.maximum c.requires.may.ahead) (first.none_due some) (first.narrow some)

pub returns-then-none_due-gt0 : goal.returns-then-none_due-gt0
returns-then-none_due-gt0 g c =
    let acts = g.S.Stage.acts in
    let first = c.none_due_of_first-none_due.ensures in
    let inputs = c.args.widths.inputs in
    let count = c.none_due_of_first-none_due.result in
    let some : 1 ≤ count = omega (arith, c.if-none_due-gt0.true) in
    let less : count * inputs ≤ c.args.next.ahead * inputs = mul-le-mul_right inputs first.maximum in
    let same = pieces-take inputs count c.args.input.now (omega (arith, less, c.requires.may.input)) in
    let changed = rw same at c.take_first.ensures.took in
    let lined = AllHeld-lined acts c.args.stages.now c.requires.may.lined in
    let held = AllHeld-taken acts (pieces inputs count c.args.input.now) c.args.stages.now c.take_first.new.stages lined changed in
    record {
      ran = λ left may.
          RanOn-taken acts g.met.S.Stage.rises inputs c.args.next.ahead count left c.args.stages.now c.take_first.new.stages c.args.input.now c.requires.may.frame.0 c.requires.may.frame.1 first.maximum c.requires.may.input c.see_samples.ensures may c.requires.may.determined lined
          (AllAhead-less acts count c.args.next.ahead c.args.stages.now first.maximum c.requires.may.ahead) changed;
      read = first.maximum;
      written = omega arith;
      small = omega arith;
      some = λ _. some;
      rest_unchanged = refl;
      order = λ left.
          through-order acts g.S.StageCalls.handed g.S.PassesWhile.passed_while (flow_of acts inputs c.args.stages.now left) (pieces inputs count c.args.input.now) [] count c.take_first.new.stages (length-pieces inputs count c.args.input.now) refl (rw same at c.take_first.ensures.handed) held;
      held = held;
    }

pub run_early-requires-clause-ready : goal.run_early-requires-clause-ready
run_early-requires-clause-ready g c =
    let left = c.requires.may.may_run.0 in
    let may = c.requires.may.may_run.1 in
    let early = c.early_frames-early.ensures in
    (left, max_frames, omega (arith, may.bound, c.requires.forecast.within, early.maximum), AreReady-run g.S.Stage.acts c.args.widths.inputs c.args.next.ahead left c.args.stages.now may (omega (arith, c.if-early-gt0.true, c.requires.forecast.within, early.maximum)) c.requires.may.determined c.requires.may.ahead)

pub run_early-requires-clause-free : goal.run_early-requires-clause-free
run_early-requires-clause-free g c =
    let same : c.args.widths.outputs ≡ c.args.widths.inputs = c.requires.may.outputs ∙ outputs-keep _ _ (c.requires.may.keep (search rules)) in
    let fit : c.early_frames-early.result * c.args.widths.inputs ≤ c.args.next.ahead * c.args.widths.inputs = mul-le-mul_right c.args.widths.inputs (omega (arith, c.early_frames-early.ensures.maximum, c.requires.forecast.within)) in
    omega (arith, fit, rw same at c.requires.may.output)

pub run_early-requires-clause-one_to_one : goal.run_early-requires-clause-one_to_one
run_early-requires-clause-one_to_one g c = AllOneToOne-less g.S.Stage.acts c.early_frames-early.result c.args.next.one_to_one c.args.stages.now c.early_frames-early.ensures.maximum c.requires.forecast.one_to_one

pub run_early-requires-clause-ahead : goal.run_early-requires-clause-ahead
run_early-requires-clause-ahead g c = AllAhead-less g.S.Stage.acts c.early_frames-early.result c.args.next.ahead c.args.stages.now (omega (arith, c.early_frames-early.ensures.maximum, c.requires.forecast.within)) c.requires.may.ahead

pub returns-then-early-gt0 : goal.returns-then-early-gt0
returns-then-early-gt0 g c =
    let went = c.run_early.ensures in
    let count = c.early_frames-early.result in
    let inputs = c.args.widths.inputs in
    let bound : count ≤ c.args.next.ahead = omega (arith, c.early_frames-early.ensures.maximum, c.requires.forecast.within) in
    let same : c.args.widths.outputs ≡ inputs = c.requires.may.outputs ∙ outputs-keep _ _ (c.requires.may.keep (search rules)) in
    let some : 1 ≤ count = omega (arith, c.if-early-gt0.true) in
    let held = AllHeld-pipeline g.S.Stage.acts _ _ c.args.stages.now c.run_early.new.stages went.through (AllHeld-lined g.S.Stage.acts c.args.stages.now c.requires.may.lined) in
    rw same (record {
      ran = λ left may.
          RanOn-pipeline g.S.Stage.acts g.met.S.Stage.rises inputs c.args.next.ahead count left c.args.stages.now c.run_early.new.stages c.args.input.now (pieces inputs count c.run_early.new.output)
          c.requires.may.frame.0 c.requires.may.frame.1 bound c.requires.may.input went.samples may c.requires.may.determined (AllHeld-lined g.S.Stage.acts c.args.stages.now c.requires.may.lined) c.requires.may.ahead went.through;
      read = bound;
      written = omega arith;
      small = omega (arith, mul-le-mul_left count c.requires.may.frame.0);
      some = λ _. some;
      rest_unchanged = went.rest_unchanged;
      order = λ left.
          early-order g.S.Stage.acts g.S.StageCalls.handed g.S.PassesWhile.passed_while (flow_of g.S.Stage.acts inputs c.args.stages.now left) (pieces inputs count c.args.input.now) _ count c.run_early.new.stages (length-pieces inputs count c.args.input.now) refl went.early held;
      held = held;
    })

pub run_one_to_one-requires : goal.run_one_to_one-requires
run_one_to_one-requires g c =
    let count = c.args.next.one_to_one in
    let inputs = c.args.widths.inputs in
    let keep = c.requires.may.keep (search rules) in
    let same : c.args.widths.outputs ≡ inputs = c.requires.may.outputs ∙ outputs-keep _ _ keep in
    let fit : count * inputs ≤ c.args.next.ahead * inputs = mul-le-mul_right inputs c.requires.forecast.within in
    let may = c.requires.may.may_run.1 in
    record {
      frame = c.requires.may.frame;
      keep = keep;
      input = omega (arith, fit, c.requires.may.input);
      output = omega (arith, fit, rw same at c.requires.may.output);
      may_run = (c.requires.may.may_run.0, record { sound = may.sound; bound = omega (arith, may.bound, c.requires.forecast.within) });
      determined = c.requires.may.determined;
      lined = c.requires.may.lined;
      ahead = AllAhead-less g.S.Stage.acts count c.args.next.ahead c.args.stages.now c.requires.forecast.within c.requires.may.ahead;
      one_to_one = c.requires.forecast.one_to_one;
    }

pub returns : goal.returns
returns g c =
    let same : c.args.widths.outputs ≡ c.args.widths.inputs = c.requires.may.outputs ∙ outputs-keep _ _ (c.requires.may.keep (search rules)) in
    record {
      ran = λ left may. rw same (c.run_one_to_one.ensures.ran left (record { sound = may.sound; bound = omega (arith, may.bound, c.requires.forecast.within) }));
      read = c.requires.forecast.within;
      written = omega arith;
      small = rw same (omega (arith, mul-le-mul_left c.args.next.one_to_one c.requires.may.frame.0));
      some = λ _. omega arith;
      rest_unchanged = rw same c.run_one_to_one.ensures.rest_unchanged;
      order = λ left. rw same (c.run_one_to_one.ensures.order left);
      held = AllHeld-lined g.S.Stage.acts c.run_one_to_one.new.stages c.run_one_to_one.ensures.lined;
    }
