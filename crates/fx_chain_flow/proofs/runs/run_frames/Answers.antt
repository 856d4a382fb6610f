use Rattle.std.proofs.Common.{rules, ◌≡◌, ◌+◌, ◌*◌, ◌<◌, ◌≤◌, ℕ, length, take, inl, inr, refl, sym, arith}
use Rattle.std.proofs.lemmas.Grind.{common_steps}
use Rattle.std.proofs.Math.Nat.{mul-le-mul_right}
use Rattle.fx_frame_base.specs.Holds.{kinds}
use Rattle.fx_frame_base.specs.Pipeline.{outputs_of}
use Rattle.fx_chain_flow.specs.Runs.{MayRun}
use Rattle.fx_chain_flow.specs.Sound.{max_frames}
use Rattle.fx_chain_flow.specs.Order.{begun}
use Rattle.fx_chain_flow.proofs.Running.{Order-frame, Running-frame, Running-none, Running-ran, Running-ready, Wrote}
use Rattle.fx_chain_flow.proofs.Pipelines.{AllHeld-lined}
use Rattle.fx_chain_flow.proofs.runs.run_frames.Goals.{then-passage, else-passage}
use Rattle.fx_chain_flow.proofs.runs.run_frames.Goals as goal

pub frames-init : goal.frames-init
frames-init g c =
    let no-read : 0 * c.args.widths.inputs ≡ 0 = omega arith in
    let no-written : 0 * c.args.widths.outputs ≡ 0 = omega arith in
    record {
      runs = λ left may. rw (no-read, no-written) (Running-none g.S.Stage.acts g.met.S.Stage.rises c.args.widths.inputs c.args.widths.outputs c.args.count left c.args.stages.now c.args.input.now c.args.output.now may (AllHeld-lined g.S.Stage.acts c.args.stages.now c.requires.lined) c.requires.ahead);
      order = λ left. let e : left + 0 ≡ left = omega arith in rw e begun;
      held = AllHeld-lined g.S.Stage.acts c.args.stages.now c.requires.lined;
      determined = c.requires.determined;
      same = refl;
      fewer = omega arith;
      small = omega arith;
      rest_unchanged = refl;
    }

pub pass_along-passage-requires-clause-ready : goal.pass_along-passage-requires-clause-ready
pass_along-passage-requires-clause-ready g c =
    let left = c.requires.may_run.0 in
    let may = c.requires.may_run.1 in
    let bound : left + c.frames.taken < max_frames = omega (arith, may.bound, c.frames-test.true) in (
      left + c.frames.taken,
      max_frames,
      bound,
      Running-ready g.S.Stage.acts g.met.S.Stage.rises c.args.widths.inputs c.args.widths.outputs c.args.count left c.args.stages.now c.args.input.now c.args.output.now c.frames.stages c.frames.output (c.frames.taken * c.args.widths.inputs) (c.frames.given * c.args.widths.outputs) c.frames.taken c.frames.given
          (c.frames.invariant.runs left may) c.frames-test.true c.frames.invariant.determined,
    )

pub returns-then-passage-2 : goal.returns-then-passage-2
returns-then-passage-2 g c =
    let acts = g.S.Stage.acts in
    let inputs : ℕ = c.args.widths.inputs in
    let outputs : ℕ = c.args.widths.outputs in
    let outs : outputs_of inputs (kinds acts c.args.stages.now) ≡ outputs = sym c.requires.outputs in
    let fits_out : c.args.count * outputs ≤ length c.frames.output = omega (arith, c.requires.output, c.frames.auto.output) in
    let wrote : Wrote outputs c.pass_along-passage.result.is_given (take outputs c.pass_along-passage.new.places) c.frames.output c.if-passage.output c.frames.given c.if-passage.given =
    elim c.if-passage.branch [
      | then-passage w ↦ inl (w.if-passage.true, rw w.copy_samples-then-passage.ensures at w.output-is, w.given-is)
      | else-passage w ↦ inr (w.if-passage.false, w.output-is, w.given-is)
    ] in
    let next = λ (left : ℕ) (may : MayRun acts inputs c.args.count c.args.stages.now left).
    Running-frame acts g.met.S.Stage.rises inputs outputs c.args.count left c.args.stages.now c.args.input.now c.args.output.now c.frames.stages c.pass_along-passage.new.stages c.frames.output c.if-passage.output c.frames.places c.pass_along-passage.new.places c.copy_samples.new.to
    c.frames.taken c.frames.given c.if-passage.given c.pass_along-passage.result.is_given (c.frames.invariant.runs left may) may.bound c.frames-test.true c.frames.invariant.determined outs c.requires.frame c.requires.input fits_out c.see_samples.ensures c.copy_samples.ensures (search rules)
    c.pass_along-passage.ensures.went c.pass_along-passage.ensures.frame wrote in
    let run = next c.requires.may_run.0 c.requires.may_run.1 in
    let order = λ (left : ℕ).
    Order-frame acts g.met.S.Stage.rises inputs outputs c.args.count c.requires.may_run.0 c.args.stages.now c.args.input.now c.args.output.now c.frames.stages c.pass_along-passage.new.stages c.frames.output c.if-passage.output c.frames.places c.pass_along-passage.new.places c.copy_samples.new.to
    c.frames.taken c.frames.given c.if-passage.given c.pass_along-passage.result.is_given (c.frames.invariant.runs c.requires.may_run.0 c.requires.may_run.1) c.requires.may_run.1.bound c.frames-test.true c.frames.invariant.determined outs c.requires.frame c.requires.input fits_out c.see_samples.ensures c.copy_samples.ensures (search rules)
    c.pass_along-passage.ensures.went c.pass_along-passage.ensures.frame g.S.StageCalls.handed g.S.PassesWhile.passed_while left wrote
    (c.frames.invariant.order left) (c.pass_along-passage.ensures.order (left + c.frames.taken)) in
    let one : c.frames.taken + 1 ≤ c.args.count = omega (arith, c.frames-test.true) in
    let fit : (c.frames.taken + 1) * inputs ≤ c.args.count * inputs = mul-le-mul_right inputs one in
    record {
      ran = λ left may. Running-ran acts g.met.S.Stage.rises inputs outputs c.args.count left c.args.stages.now c.args.input.now c.args.output.now c.pass_along-passage.new.stages c.if-passage.output _ _ (c.frames.taken + 1) c.if-passage.given (next left may)
          (omega (arith, fit, c.requires.input)) outs;
      read = omega (arith, one);
      written = run.fewer;
      small = run.turned.small;
      some = λ _. omega arith;
      rest_unchanged = run.turned.rest_unchanged;
      order = order;
      held = run.held;
    }

pub returns : goal.returns
returns g c =
    let acts = g.S.Stage.acts in
    let inputs : ℕ = c.args.widths.inputs in
    let outputs : ℕ = c.args.widths.outputs in
    let outs : outputs_of inputs (kinds acts c.args.stages.now) ≡ outputs = sym c.requires.outputs in
    let all : c.frames.taken ≡ c.args.count = omega (arith, c.frames-test.false, c.frames.auto.taken-end) in
    let fit : c.frames.taken * inputs ≤ c.args.count * inputs = mul-le-mul_right inputs (omega (arith, all)) in
    record {
      ran = λ left may. rw all at (Running-ran acts g.met.S.Stage.rises inputs outputs c.args.count left c.args.stages.now c.args.input.now c.args.output.now c.frames.stages c.frames.output _ _ c.frames.taken c.frames.given (c.frames.invariant.runs left may)
          (omega (arith, fit, c.requires.input)) outs);
      read = omega arith;
      written = omega (arith, c.frames.invariant.fewer, all);
      small = c.frames.invariant.small;
      some = λ one. one;
      rest_unchanged = c.frames.invariant.rest_unchanged;
      order = λ left. rw all at (c.frames.invariant.order left);
      held = c.frames.invariant.held;
    }

pub frames-preserved : goal.frames-preserved
frames-preserved g c =
    let acts = g.S.Stage.acts in
    let inputs : ℕ = c.args.widths.inputs in
    let outputs : ℕ = c.args.widths.outputs in
    let outs : outputs_of inputs (kinds acts c.args.stages.now) ≡ outputs = sym c.requires.outputs in
    let fits_out : c.args.count * outputs ≤ length c.frames.output = omega (arith, c.requires.output, c.frames.auto.output) in
    let wrote : Wrote outputs c.pass_along-passage.result.is_given (take outputs c.pass_along-passage.new.places) c.frames.output c.if-passage.output c.frames.given c.if-passage.given =
    elim c.if-passage.branch [
      | then-passage w ↦ inl (w.if-passage.true, rw w.copy_samples-then-passage.ensures at w.output-is, w.given-is)
      | else-passage w ↦ inr (w.if-passage.false, w.output-is, w.given-is)
    ] in
    let next = λ (left : ℕ) (may : MayRun acts inputs c.args.count c.args.stages.now left).
    Running-frame acts g.met.S.Stage.rises inputs outputs c.args.count left c.args.stages.now c.args.input.now c.args.output.now c.frames.stages c.pass_along-passage.new.stages c.frames.output c.if-passage.output c.frames.places c.pass_along-passage.new.places c.copy_samples.new.to
    c.frames.taken c.frames.given c.if-passage.given c.pass_along-passage.result.is_given (c.frames.invariant.runs left may) may.bound c.frames-test.true c.frames.invariant.determined outs c.requires.frame c.requires.input fits_out c.see_samples.ensures c.copy_samples.ensures (search rules)
    c.pass_along-passage.ensures.went c.pass_along-passage.ensures.frame wrote in
    let run = next c.requires.may_run.0 c.requires.may_run.1 in
    let order = λ (left : ℕ).
    Order-frame acts g.met.S.Stage.rises inputs outputs c.args.count c.requires.may_run.0 c.args.stages.now c.args.input.now c.args.output.now c.frames.stages c.pass_along-passage.new.stages c.frames.output c.if-passage.output c.frames.places c.pass_along-passage.new.places c.copy_samples.new.to
    c.frames.taken c.frames.given c.if-passage.given c.pass_along-passage.result.is_given (c.frames.invariant.runs c.requires.may_run.0 c.requires.may_run.1) c.requires.may_run.1.bound c.frames-test.true c.frames.invariant.determined outs c.requires.frame c.requires.input fits_out c.see_samples.ensures c.copy_samples.ensures (search rules)
    c.pass_along-passage.ensures.went c.pass_along-passage.ensures.frame g.S.StageCalls.handed g.S.PassesWhile.passed_while left wrote
    (c.frames.invariant.order left) (c.pass_along-passage.ensures.order (left + c.frames.taken)) in
    record {
      runs = next;
      order = order;
      held = run.held;
      determined = c.pass_along-passage.ensures.determined c.if-passage-2.false;
      same = run.same;
      fewer = run.fewer;
      small = run.turned.small;
      rest_unchanged = run.turned.rest_unchanged;
    }

pub overflow_add-written : goal.overflow_add-written
overflow_add-written g c = grind (arith, common_steps)
