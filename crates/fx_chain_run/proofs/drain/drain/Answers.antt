use Rattle.std.proofs.Common.{◌∙◌, refl, ap, arith, length}
use Rattle.std.proofs.lemmas.Result.{MatchResult-from_err}
use Rattle.fx_chain_run.proofs.Draining.{Drained-more, Drained-none, Drained-unchanged, CutOff-more, given_by-bound}
use Rattle.fx_chain_run.proofs.drain.drain.Goals as goal
use Rattle.fx_chain_flow.proofs.Feeding.{none-out}

pub send-requires-clause-free : goal.send-requires-clause-free
send-requires-clause-free g c =
    let old = c.loop-flow.invariant in
    let bound = given_by-bound g.S.Stage.acts g.met.S.Stage.rises c.args.flow.now c.loop-flow.flow old.recipes_stay c.requires.fits c.stages-stages.ensures.maximum c.stages-stages.ensures.sound.bound in
    omega (arith, bound, old.free)

pub send-requires-clause-bound : goal.send-requires-clause-bound
send-requires-clause-bound g c =
    let old = c.loop-flow.invariant in
    let bound = given_by-bound g.S.Stage.acts g.met.S.Stage.rises c.args.flow.now c.loop-flow.flow old.recipes_stay c.requires.fits c.stages-stages.ensures.maximum c.stages-stages.ensures.sound.bound in
    omega (arith, bound, old.bound)

pub loop-flow-init : goal.loop-flow-init
loop-flow-init g c = record {
  drained = Drained-none g.S.Stage.acts c.args.flow.now c.args.frame_writer.now.coding c.args.frame_writer.now.clips _ c.args.frame_writer.now.output;
  free = c.requires.free;
  bound = c.requires.bound;
  coding = refl;
  failures = refl;
  recipes_stay = refl;
}

pub loop-flow-preserved : goal.loop-flow-preserved
loop-flow-preserved g c =
    let old = c.loop-flow.invariant in
    let steps = c.step.ensures.steps in
    let none = none-out c.step.result c.in_default-step.not-Given in
    record {
      drained = Drained-unchanged g.S.Stage.acts c.args.flow.now c.loop-flow.flow c.step.new.self c.step.result c.args.frame_writer.now.coding _ _ _ _ _ _ old.drained steps c.step.ensures.moved none;
      free = omega (arith, steps.given, ap length none, old.free);
      bound = omega (arith, steps.given, ap length none, old.bound);
      coding = old.coding;
      failures = old.failures;
      recipes_stay = steps.recipes_stay ∙ old.recipes_stay;
    }

pub loop-flow-preserved-in-Continue-1 : goal.loop-flow-preserved-in-Continue-1
loop-flow-preserved-in-Continue-1 g c =
    let old = c.loop-flow.invariant in
    let steps = c.in-Given.ensures.steps in
    let sent = c.in_ok-send.ensures in
    let one = steps.given in
    record {
      drained = Drained-more g.S.Stage.acts c.args.flow.now c.loop-flow.flow c.step.new.self _ c.in-Given.frame c.args.frame_writer.now.coding _ _ _ _ _ _ _ _ _ old.drained steps c.in-Given.ensures.moved refl (rw old.coding at sent.clips) (rw old.coding at sent.sent);
      free = omega (arith, one, sent.small, old.free);
      bound = omega (arith, one, sent.bound, old.bound);
      coding = sent.coding ∙ old.coding;
      failures = sent.failures ∙ old.failures;
      recipes_stay = steps.recipes_stay ∙ old.recipes_stay;
    }

pub returns-in_err-send-clause-cut_off : goal.returns-in_err-send-clause-cut_off
returns-in_err-send-clause-cut_off g c =
    let old = c.loop-flow.invariant in
    let sent = c.in_err-send.ensures in
    MatchResult-from_err _ _ _ c.from_residual.ensures.0 (λ _. CutOff-more g.S.Stage.acts c.args.flow.now c.loop-flow.flow c.step.new.self _ c.in-Given.frame c.args.frame_writer.now.coding _ _ _ _ _ _ _ _ _ old.drained c.in-Given.ensures.steps c.in-Given.ensures.moved refl (rw old.coding at sent.clips) (rw old.coding at sent.sent_err))
