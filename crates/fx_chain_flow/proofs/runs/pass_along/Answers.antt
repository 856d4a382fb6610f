use Rattle.std.proofs.Common.{rules, ◌≡◌, ◌<◌, ◌∙◌, [], ◌∷◌, Some, length, take, refl, sym, arith, add-one}
use Rattle.std.proofs.lemmas.List.{length-take-le}
use Rattle.fx_frame_base.specs.Frame.{Samples}
use Rattle.fx_frame_base.specs.Holds.{kinds}
use Rattle.fx_frame_base.specs.Pipeline.{outputs_of}
use Rattle.fx_frame_base.specs.declared.feed.Passing.TheVariants.{Kept, Through, More}
use Rattle.fx_chain_flow.specs.StageCall.{MayBePassed, WasPassed}
use Rattle.fx_chain_flow.specs.Pipeline.{AllHeld, WentThrough}
use Rattle.fx_chain_flow.specs.Runs.{flow_of}
use Rattle.fx_chain_flow.proofs.Orders.{AllHeld-set, came-order, out-order, passed-order, took-order}
use Rattle.fx_chain_flow.proofs.Pipelines.{AllHeld-sum, CameTo-next, MayPass-at, WentThrough-kept, WentThrough-out}
use Rattle.fx_chain_flow.proofs.PipelineSteps.{WentThrough-sides}
use Rattle.fx_chain_flow.proofs.Places.{At-from, ChangedAt-placed}
use Rattle.fx_chain_flow.proofs.Running.{AllKeep-at, determined-kept, determined-next}
use Rattle.fx_chain_flow.proofs.runs.pass_along.Given as given
use Rattle.fx_chain_flow.proofs.runs.pass_along.Goals as goal
use Rattle.fx_chain_flow.proofs.runs.pass_along.Goals.{in-Through, in-More}

pub stages-init : goal.stages-init
stages-init g c =
    let acts = g.S.Stage.acts in
    let sixteen : length c.args.places.now ≡ 16 = search rules in
    record {
      came = (refl, refl);
      long = sixteen;
      frame = c.requires.frame;
      kept = λ _. refl;
      determined = λ _. tt;
      held = c.requires.held;
      order = λ left.
          let within = AllHeld-sum acts c.args.stages.now c.requires.held in
          came-order acts g.S.StageCalls.handed g.S.PassesWhile.passed_while (flow_of acts c.args.channels c.args.stages.now left) (take c.args.channels c.args.places.now ∷ []) 1 refl refl (omega (arith, within));
    }

-- the stage at the place may be passed the frame
pub pass_at-requires-clause-may : goal.pass_at-requires-clause-may
pass_at-requires-clause-may g c =
    let acts = g.S.Stage.acts in
    let here : c.stages.place < length c.stages.stages = omega (arith, c.stages-test.true, c.stages.auto.stages) in
    let sixteen : length c.args.places.now ≡ 16 = search rules in
    let first : length (take c.args.channels c.args.places.now) ≡ c.args.channels = length-take-le c.args.channels c.args.places.now (omega (arith, sixteen, c.requires.frame.1)) in
    let width : length (take c.stages.width c.stages.places) ≡ c.stages.width = length-take-le c.stages.width c.stages.places (omega (arith, c.stages.invariant.long, c.stages.invariant.frame.1)) in
    At-from (MayBePassed acts c.args.keeps c.stages.width) c.stages.place c.stages.stages here (λ d.
    let m = MayPass-at acts g.met.S.Stage.rises c.stages.place c.args.channels c.requires.ready.0 c.requires.ready.1 (take c.args.channels c.args.places.now) (take c.stages.width c.stages.places) c.args.stages.now c.stages.stages d first c.requires.ready.2 c.requires.ready.3 c.stages.invariant.came here in
    record {
      takes = record { dry = m.dry; not_ended = m.not_ended; channels = sym width ∙ m.channels; below_limit = m.below_limit };
      not_spent = m.not_spent;
      keep = λ keeps.
          let gives = AllKeep-at acts c.stages.place c.args.channels (take c.args.channels c.args.places.now) (take c.stages.width c.stages.places) c.args.stages.now c.stages.stages d c.stages.invariant.came (c.requires.keep keeps) here in
          gives ∙ sym (c.stages.invariant.kept keeps) ∙ sym width ∙ m.channels;
    })

pub returns-in-Kept-clause-went : goal.returns-in-Kept-clause-went
returns-in-Kept-clause-went g c =
    let acts = g.S.Stage.acts in
    let p = ChangedAt-placed (WasPassed acts Kept (take c.stages.width c.stages.places) (take c.pass_at.new.channels c.pass_at.new.places)) c.stages.place c.stages.stages c.pass_at.new.stages c.in-Kept.ensures.passed in
    rw p.put (WentThrough-kept acts c.stages.place (take c.args.channels c.args.places.now) (take c.stages.width c.stages.places) c.args.stages.now c.stages.stages p.after p.before p.inside c.stages.invariant.came p.changed.0.0)

pub returns-in-Kept-clause-determined : goal.returns-in-Kept-clause-determined
returns-in-Kept-clause-determined g c = λ none.
    let acts = g.S.Stage.acts in
    let p = ChangedAt-placed (WasPassed acts Kept (take c.stages.width c.stages.places) (take c.pass_at.new.channels c.pass_at.new.places)) c.stages.place c.stages.stages c.pass_at.new.stages c.in-Kept.ensures.passed in
    let dry = p.changed.0.1 in
    rw p.put (determined-kept acts c.stages.place (take c.args.channels c.args.places.now) (take c.stages.width c.stages.places) c.args.stages.now c.stages.stages p.after p.inside c.stages.invariant.came c.requires.determined (c.stages.invariant.determined none) dry (p.changed.1 dry))

pub returns-in-Kept-clause-order : goal.returns-in-Kept-clause-order
returns-in-Kept-clause-order g c = λ left.
    let acts = g.S.Stage.acts in
    let p = ChangedAt-placed (WasPassed acts Kept (take c.stages.width c.stages.places) (take c.pass_at.new.channels c.pass_at.new.places)) c.stages.place c.stages.stages c.pass_at.new.stages c.in-Kept.ensures.passed in
    let held : AllHeld acts c.pass_at.new.stages = rw p.put (AllHeld-set acts c.stages.place c.stages.stages p.after p.changed.0.0.held c.stages.invariant.held) in
    took-order acts g.S.StageCalls.handed g.S.PassesWhile.passed_while _ _ _ [] (take c.stages.width c.stages.places) c.stages.place c.pass_at.new.stages (c.stages.invariant.order left) c.in-Kept.ensures.handed held

pub stages-preserved : goal.stages-preserved
stages-preserved g c =
    let acts = g.S.Stage.acts in
    let here : c.stages.place < length c.stages.stages = omega (arith, c.stages-test.true, c.stages.auto.stages) in
    let sixteen : length c.pass_at.new.places ≡ 16 = search rules in
    let x : Samples = take c.stages.width c.stages.places in
    let y : Samples = take c.pass_at.new.channels c.pass_at.new.places in
    elim c.match-pass_at.branch [
      | in-Through w ↦
          let p = ChangedAt-placed (WasPassed acts Through (take c.stages.width c.stages.places) (take c.pass_at.new.channels c.pass_at.new.places)) c.stages.place c.stages.stages c.pass_at.new.stages w.in-Through.ensures.passed in
          let passed = p.changed.0 in
          let held : AllHeld acts c.pass_at.new.stages = rw p.put (AllHeld-set acts c.stages.place c.stages.stages p.after passed.2.held c.stages.invariant.held) in
          rw add-one (record {
            came = rw p.put (CameTo-next acts c.stages.place (take c.args.channels c.args.places.now) x y c.args.stages.now c.stages.stages passed.0 p.after p.before here c.stages.invariant.came passed.1 passed.2);
            long = sixteen;
            frame = c.pass_at.ensures.frame;
            kept = λ keeps. c.pass_at.ensures.kept keeps ∙ c.stages.invariant.kept keeps;
            determined = λ none. rw p.put (determined-next acts c.stages.place c.stages.stages p.after here (c.stages.invariant.determined (sym w.is_wet-is ∙ none)) passed.3 (p.changed.1 passed.3));
            held = held;
            order = λ left. passed-order acts g.S.StageCalls.handed g.S.PassesWhile.passed_while _ _ _ [] x y c.stages.place c.pass_at.new.stages (c.stages.invariant.order left) refl w.in-Through.ensures.handed held;
          })
      | in-More w ↦
          let p = ChangedAt-placed (WasPassed acts More (take c.stages.width c.stages.places) (take c.pass_at.new.channels c.pass_at.new.places)) c.stages.place c.stages.stages c.pass_at.new.stages w.in-More.ensures.passed in
          let passed = p.changed.0 in
          let held : AllHeld acts c.pass_at.new.stages = rw p.put (AllHeld-set acts c.stages.place c.stages.stages p.after passed.2.held c.stages.invariant.held) in
          rw add-one (record {
            came = rw p.put (CameTo-next acts c.stages.place (take c.args.channels c.args.places.now) x y c.args.stages.now c.stages.stages passed.0 p.after p.before here c.stages.invariant.came passed.1 passed.2);
            long = sixteen;
            frame = c.pass_at.ensures.frame;
            kept = λ keeps. c.pass_at.ensures.kept keeps ∙ c.stages.invariant.kept keeps;
            determined = λ none. absurd (cc (none, w.is_wet-is));
            held = held;
            order = λ left. passed-order acts g.S.StageCalls.handed g.S.PassesWhile.passed_while _ _ _ [] x y c.stages.place c.pass_at.new.stages (c.stages.invariant.order left) refl w.in-More.ensures.handed held;
          })
    ]

-- the frame came out after the last stage, as wide as the last stage makes it
out : (g : given.Over) (c : goal.After-stages g) → (WentThrough g.S.Stage.acts (take c.args.channels c.args.places.now) (Some (take c.stages.width c.stages.places)) c.args.stages.now c.stages.stages) × (c.stages.width ≡ outputs_of c.args.channels (kinds g.S.Stage.acts c.args.stages.now))
out g c =
    let acts = g.S.Stage.acts in
    let sixteen : length c.args.places.now ≡ 16 = search rules in
    let first : length (take c.args.channels c.args.places.now) ≡ c.args.channels = length-take-le c.args.channels c.args.places.now (omega (arith, sixteen, c.requires.frame.1)) in
    let last : length (take c.stages.width c.stages.places) ≡ c.stages.width = length-take-le c.stages.width c.stages.places (omega (arith, c.stages.invariant.long, c.stages.invariant.frame.1)) in
    let went = WentThrough-out acts c.stages.place (take c.args.channels c.args.places.now) (take c.stages.width c.stages.places) c.args.stages.now c.stages.stages (omega (arith, c.stages-test.false, c.stages.auto.stages)) c.stages.invariant.came in
    (went, sym last ∙ WentThrough-sides acts c.args.channels (take c.args.channels c.args.places.now) (take c.stages.width c.stages.places) c.args.stages.now c.stages.stages went first)

pub returns-clause-went : goal.returns-clause-went
returns-clause-went g c = let o = out g c in rw (← o.1) o.0

pub returns-clause-frame : goal.returns-clause-frame
returns-clause-frame g c = λ given. let o = out g c in rw (← o.1) c.stages.invariant.frame

pub returns-clause-order : goal.returns-clause-order
returns-clause-order g c = λ left.
    let o = out g c in
    let last : c.stages.place ≡ length c.stages.stages = omega (arith, c.stages-test.false, c.stages.auto.stages, c.stages.auto.place-end) in
    rw (← o.1) (out-order g.S.Stage.acts g.S.StageCalls.handed g.S.PassesWhile.passed_while _ _ _ (take c.stages.width c.stages.places) c.stages.place (c.stages.invariant.order left) last)
