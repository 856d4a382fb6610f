use Rattle.std.proofs.Common.{ℕ, zero, suc, ◌≡◌, ◌+◌, ◌*◌, ◌≤◌, List, [], drop, refl, arith, ℤ, FitsSigned}
use Rattle.std.specs.Int.{w32}
use Rattle.std.proofs.lemmas.List.Elements.{All-nil}
use Rattle.std.proofs.Math.Nat.{mul-le-mul_left}
use Rattle.fx_frame_base.specs.Lists.{pieces}
use Rattle.fx_frame_base.proofs.PipelineLaws.{PipelineThrough-none}
use Rattle.fx_frame_base.proofs.Pieces.{length-pieces}
use Rattle.fx_chain_flow.specs.Order.{begun}
use Rattle.fx_chain_flow.specs.Runs.{flow_of}
use Rattle.fx_chain_flow.specs.Sound.{max_frames}
use Rattle.fx_chain_flow.proofs.Orders.{AllHeld-pipeline, through-order}
use Rattle.fx_chain_flow.proofs.PipelineRuns.{AreReady-run, RanOn-pipeline, PipelineThrough-stays}
use Rattle.fx_chain_flow.proofs.Pipelines.{AllHeld-lined}
use Rattle.fx_chain_flow.proofs.runs.run.Goals as goal

pub returns-then-next-eq0 : goal.returns-then-next-eq0
returns-then-next-eq0 g c =
    let none : 0 * c.args.widths.inputs ≡ 0 = omega arith in
    record {
      ran = λ left may.
          RanOn-pipeline g.S.Stage.acts g.met.S.Stage.rises c.args.widths.inputs c.args.next.ahead 0 left c.args.stages.now c.args.stages.now c.args.input.now [] c.requires.may.frame.0 c.requires.may.frame.1 (omega arith) c.requires.may.input (rw none (All-nil (FitsSigned w32)))
          may c.requires.may.determined (AllHeld-lined g.S.Stage.acts c.args.stages.now c.requires.may.lined) c.requires.may.ahead (PipelineThrough-none g.S.Stage.acts c.args.stages.now);
      read = omega arith;
      written = omega arith;
      small = omega arith;
      some = λ one. omega (arith, c.if-next-eq0.true);
      rest_unchanged = refl;
      order = λ left. let e : left + 0 ≡ left = omega arith in rw e begun;
      held = AllHeld-lined g.S.Stage.acts c.args.stages.now c.requires.may.lined;
    }

pub pass_all-passed-requires-clause-ready : goal.pass_all-passed-requires-clause-ready
pass_all-passed-requires-clause-ready g c =
    let left = c.requires.may.may_run.0 in
    let may = c.requires.may.may_run.1 in
    (left, max_frames, may.bound, AreReady-run g.S.Stage.acts c.args.widths.inputs c.args.next.ahead left c.args.stages.now may (omega (arith, c.if-next-eq0.false)) c.requires.may.determined c.requires.may.ahead)

pub returns-then-passed-gt0 : goal.returns-then-passed-gt0
returns-then-passed-gt0 g c =
    let through_all = c.pass_all-passed.ensures in
    let one : 1 ≤ c.pass_all-passed.result = omega (arith, c.if-passed-gt0.true) in
    let held = AllHeld-pipeline g.S.Stage.acts _ _ c.args.stages.now c.pass_all-passed.new.stages through_all.through (AllHeld-lined g.S.Stage.acts c.args.stages.now c.requires.may.lined) in
    record {
      ran = λ left may.
          RanOn-pipeline g.S.Stage.acts g.met.S.Stage.rises c.args.widths.inputs c.args.next.ahead c.pass_all-passed.result left c.args.stages.now c.pass_all-passed.new.stages c.args.input.now (pieces c.args.widths.outputs c.pass_all-passed.result c.pass_all-passed.new.output)
          c.requires.may.frame.0 c.requires.may.frame.1 through_all.bound c.requires.may.input through_all.samples may c.requires.may.determined (AllHeld-lined g.S.Stage.acts c.args.stages.now c.requires.may.lined) c.requires.may.ahead through_all.through;
      read = through_all.bound;
      written = omega arith;
      small = omega (arith, mul-le-mul_left c.pass_all-passed.result (through_all.frame one));
      some = λ _. one;
      rest_unchanged = through_all.rest_unchanged;
      order = λ left.
          let xs = pieces c.args.widths.inputs c.pass_all-passed.result c.args.input.now in
          let many = length-pieces c.args.widths.inputs c.pass_all-passed.result c.args.input.now in
          through-order g.S.Stage.acts g.S.StageCalls.handed g.S.PassesWhile.passed_while (flow_of g.S.Stage.acts c.args.widths.inputs c.args.stages.now left) xs _ c.pass_all-passed.result c.pass_all-passed.new.stages many refl through_all.handed held;
      held = held;
    }

-- where none was written in front of the output, it is as it was
front-stays : (n width : ℕ) (before after : List ℤ) → n ≤ 0 → drop (n * width) after ≡ drop (n * width) before → after ≡ before
front-stays zero width before after none rest_unchanged = let front : 0 * width ≡ 0 = omega arith in rw front at rest_unchanged
front-stays (suc n) width before after none rest_unchanged = absurd (omega arith)

pub run_apart-requires-clause-may : goal.run_apart-requires-clause-may
run_apart-requires-clause-may g c =
    let pipeline = c.pass_all-passed.ensures in
    let stays = PipelineThrough-stays g.S.Stage.acts c.args.widths.inputs c.pass_all-passed.result c.args.input.now _ _ _ c.if-passed-gt0.false pipeline.through in
    let same = front-stays c.pass_all-passed.result c.args.widths.outputs c.args.output.now c.pass_all-passed.new.output c.if-passed-gt0.false pipeline.rest_unchanged in
    rw (stays, same) c.requires.may

pub run_apart-requires-clause-forecast : goal.run_apart-requires-clause-forecast
run_apart-requires-clause-forecast g c =
    let stays = PipelineThrough-stays g.S.Stage.acts c.args.widths.inputs c.pass_all-passed.result c.args.input.now _ _ _ c.if-passed-gt0.false c.pass_all-passed.ensures.through in
    rw stays c.requires.forecast

pub returns : goal.returns
returns g c =
    let called = c.pass_all-passed.ensures in
    let kept = PipelineThrough-stays g.S.Stage.acts c.args.widths.inputs c.pass_all-passed.result c.args.input.now _ _ _ c.if-passed-gt0.false called.through in
    let alike = front-stays c.pass_all-passed.result c.args.widths.outputs c.args.output.now c.pass_all-passed.new.output c.if-passed-gt0.false called.rest_unchanged in
    rw (kept, alike) at c.run_apart.ensures
