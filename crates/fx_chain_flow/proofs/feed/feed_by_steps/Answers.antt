use Rattle.std.proofs.Common.{◌<◌, ◌≤◌, ◌+◌, ◌-◌, ◌*◌, ◌∙◌, append-nil, drop, length, refl, ap, arith}
use Rattle.std.proofs.lemmas.List.{length-drop, take_all}
use Rattle.std.proofs.Math.Nat.{add-mul}
use Rattle.fx_frame_base.proofs.Pieces.{length-pieces}
use Rattle.fx_frame_base.specs.Holds.{kinds}
use Rattle.fx_frame_base.specs.Pipeline.{outputs_of}
use Rattle.fx_chain_flow.specs.Feed.{HoldsBound}
use Rattle.fx_chain_flow.specs.Order.{begun}
use Rattle.fx_chain_flow.proofs.Feeding.{Turned-gave-order, Turned-ran-order, Turned-none, Turned-gave, Turned-gave-last, Turned-moved, Turned-outs, Turned-ran, Turned-ran-last, Turned-free, Turned-sides, none-out, smaller-run, smaller-step, some-gave}
use Rattle.fx_chain_flow.proofs.Running.{put-rest}
use Rattle.fx_chain_flow.proofs.feed.feed_by_steps.Goals as goal
use Rattle.fx_chain_flow.proofs.feed.feed_by_steps.Goals.{in-Busy+in-Given, in-Busy+in_default, in-Hungry+else-is_spent+else-input-read}

pub turns-init : goal.turns-init
turns-init g c = record { turned = Turned-none g.S.Stage.acts _ _ _; order = begun; free = λ n bound. absurd (omega (arith, bound)); unchanged = λ bound. refl; full = λ some over. absurd (omega (arith, some)) }

pub put_frame-requires : goal.put_frame-requires
put_frame-requires g c =
    let old = c.turns.invariant.turned in
    let sides = Turned-sides g.S.Stage.acts c.args.flow.now c.args.input.now c.args.output.now c.turns.flow c.step.new.self c.in-Given.frame _ _ _ _ _ old c.stages-stages.ensures.sound c.in-Given.ensures.moved in
    omega (arith, sides, c.turns-test.true, c.widths-widths.ensures.outputs, old.written_in)

pub run-passed-requires-clause-bound : goal.run-passed-requires-clause-bound
run-passed-requires-clause-bound g c = λ n h.
    let first = c.args.flow.now in
    let old = c.turns.invariant.turned in
    let more : n * first.channels ≤ length (drop c.turns.read c.args.input.now) = rw (take_all (length c.args.input.now - c.turns.read) (drop c.turns.read c.args.input.now) (omega (arith, length-drop c.turns.read c.args.input.now)), old.gave.channels) at h in
    let next : (c.turns.taken + n) * first.channels ≤ length c.args.input.now =
    omega (arith, old.read_is, add-mul c.turns.taken n first.channels, more, length-drop c.turns.read c.args.input.now, old.read_in) in
    omega (arith, c.requires.bound (c.turns.taken + n) next, old.gave.taken, length-pieces first.channels c.turns.taken c.args.input.now)

pub turns-smaller : goal.turns-smaller
turns-smaller g c =
    let acts = g.S.Stage.acts in
    let first = c.args.flow.now in
    let input = c.args.input.now in
    let start = c.args.output.now in
    let old = c.turns.invariant.turned in
    elim c.match-state.branch [
      | in-Busy+in-Given w ↦ rw (w.flow-is, w.read-is) (smaller-step acts first input start g.met.S.Stage.rises c.turns.flow w.step.new.self _ _ _ c.turns.read old.gave c.stages-stages.ensures.sound w.step.ensures.steps)
      | in-Busy+in_default w ↦ rw (w.flow-is, w.read-is) (smaller-step acts first input start g.met.S.Stage.rises c.turns.flow w.step.new.self _ _ _ c.turns.read old.gave c.stages-stages.ensures.sound w.step.ensures.steps)
      | in-Hungry+else-is_spent+else-input-read w ↦
          let passed = w.run-passed.ensures in
          let rest = take_all (length input - c.turns.read) (drop c.turns.read input) (omega (arith, length-drop c.turns.read input)) in
          let free = rw (rest, old.gave.channels) at passed.placed.read in
          rw (w.flow-is, w.read-is, c.widths-widths.ensures.inputs)
          (smaller-run acts first input start c.turns.flow w.run-passed.new.self c.turns.read w.run-passed.result.taken passed.moves c.requires.channels.0 passed.some (omega (arith, free, length-drop c.turns.read input)) old.read_in)
    ]

pub turns-preserved : goal.turns-preserved
turns-preserved g c =
    let acts = g.S.Stage.acts in
    let first = c.args.flow.now in
    let input = c.args.input.now in
    let start = c.args.output.now in
    let old = c.turns.invariant.turned in
    let held : HoldsBound acts c.match-state.flow = omega (arith, c.held-held.ensures.value, c.held-held.ensures.within) in
    let no_space : length start < outputs_of first.channels (kinds acts first.stages) → ⊥ =
    λ bound. omega (arith, bound, c.turns-test.true, c.widths-widths.ensures.outputs, ap length old.rest_unchanged, length-drop c.turns.written c.turns.output, length-drop c.turns.written start) in
    let not_full : length start < c.turns.written + outputs_of first.channels (kinds acts first.stages) → ⊥ = λ over. omega (arith, over, c.turns-test.true, c.widths-widths.ensures.outputs, old.written_in, c.turns.auto.output) in
    elim c.match-state.branch [
      | in-Busy+in-Given w ↦
          let here : HoldsBound acts w.step.new.self = rw (← w.flow-is) held in
          let sides = Turned-sides acts first input start c.turns.flow w.step.new.self w.in-Given.frame _ _ _ _ _ old c.stages-stages.ensures.sound w.in-Given.ensures.moved in
          record {
            turned = rw (w.flow-is, w.output-is, w.read-is, w.written-is, w.taken-is, w.given-is, w.channels-written.ensures.count)
                (Turned-gave acts first input start c.turns.flow w.step.new.self w.in-Given.frame c.turns.output w.put_frame.new.output _ _ _ _ old c.stages-stages.ensures.sound w.in-Given.ensures.steps (record { moved = w.in-Given.ensures.moved; held = here }) w.channels-written.ensures.frame.some
                (omega (arith, c.turns-test.true, c.widths-widths.ensures.outputs, old.written_in)) w.put_frame.ensures w.put_frame.auto.output);
            order = rw (w.flow-is, w.output-is, w.taken-is, w.given-is)
                (Turned-gave-order acts first input start g.S.StageCalls.handed g.S.PassesWhile.passed_while c.turns.flow w.step.new.self w.in-Given.frame c.turns.output w.put_frame.new.output _ _ _ _ old sides (omega (arith, c.turns-test.true, c.widths-widths.ensures.outputs, old.written_in)) w.put_frame.ensures (w.in-Given.ensures.order first _ _ c.turns.invariant.order));
            free = rw w.taken-is c.turns.invariant.free;
            unchanged = λ bound. absurd (no_space bound);
            full = rw (w.flow-is, w.output-is, w.written-is, w.taken-is, w.given-is, w.channels-written.ensures.count)
                (λ some over. Turned-gave-last acts first input start c.turns.flow w.step.new.self w.in-Given.frame c.turns.output w.put_frame.new.output _ _ _ _ old (record { moved = w.in-Given.ensures.moved; held = here }) sides
                (omega (arith, c.turns-test.true, c.widths-widths.ensures.outputs, old.written_in)) w.put_frame.ensures);
          }
      | in-Busy+in_default w ↦
          let here : HoldsBound acts w.step.new.self = rw (← w.flow-is) held in
          record {
            turned = rw (w.flow-is, w.output-is, w.read-is, w.written-is, w.taken-is, w.given-is)
                (Turned-moved acts first input start c.turns.flow w.step.new.self w.step.result c.turns.output _ _ _ _ old w.step.ensures.steps (record { moved = w.step.ensures.moved; held = here }) (none-out w.step.result w.in_default.not-Given));
            order = rw (w.flow-is, w.output-is, w.taken-is, w.given-is) (rw (none-out w.step.result w.in_default.not-Given, append-nil) at (w.step.ensures.order first _ _ c.turns.invariant.order));
            free = rw w.taken-is c.turns.invariant.free;
            unchanged = λ bound. absurd (no_space bound);
            full = rw w.written-is (λ some over. absurd (not_full over));
          }
      | in-Hungry+else-is_spent+else-input-read w ↦
          let passed = w.run-passed.ensures in
          let sides = Turned-outs acts first input start c.turns.flow c.turns.output _ _ _ _ old in
          let rest = take_all (length input - c.turns.read) (drop c.turns.read input) (omega (arith, length-drop c.turns.read input)) in
          let over-all = take_all (length c.turns.output - c.turns.written) (drop c.turns.written c.turns.output) (omega (arith, length-drop c.turns.written c.turns.output)) in
          let out = w.run-passed.new.output in
          let put = put-rest c.turns.written c.turns.output out c.match-state.output w.output-is in
          record {
            turned = rw (w.flow-is, w.read-is, w.written-is, w.taken-is, w.given-is, c.widths-widths.ensures.inputs, c.widths-widths.ensures.outputs)
                (Turned-ran acts first input start _ _ old.gave.channels sides c.turns.flow w.run-passed.new.self c.turns.output c.match-state.output out _ _ _ _ w.run-passed.result.taken w.run-passed.result.given old w.in-Hungry.ensures.state.not_ended
                (rw rest at passed.fed) (rw rest at passed.gave) c.requires.channels.0 (rw rest at passed.placed.read) passed.placed.written passed.small (rw over-all at passed.placed.rest_unchanged) (w.run-passed.auto.output ∙ ap length over-all) put);
            order = rw (w.flow-is, w.taken-is, w.given-is)
                (Turned-ran-order acts first input start g.S.StageCalls.handed g.S.PassesWhile.passed_while _ _ old.gave.channels sides c.turns.flow w.run-passed.new.self c.turns.output c.match-state.output out _ _ _ _ w.run-passed.result.taken w.run-passed.result.given old c.turns.invariant.order (rw rest at passed.order) put);
            free = rw w.taken-is
                (Turned-free acts first input start c.turns.flow c.turns.output _ _ _ _ w.run-passed.result.taken (length start) old c.turns.invariant.free (rw (over-all, length-drop c.turns.written c.turns.output, c.turns.auto.output) at passed.free) (omega (arith, old.written_in, c.turns.auto.output)));
            unchanged = λ bound. absurd (no_space bound);
            full = rw (w.flow-is, w.written-is, w.taken-is, w.given-is, c.widths-widths.ensures.outputs) (λ some over.
                let left = rw (over-all, sides) at passed.full in
                let one = some-gave w.run-passed.result.given _ c.turns.written (length start) (omega (arith, c.turns-test.true, c.widths-widths.ensures.outputs, old.written_in, c.turns.auto.output)) over in
                let last = left one (omega (arith, over, length-drop c.turns.written c.turns.output, c.turns.auto.output)) in
                Turned-ran-last acts first input start _ _ old.gave.channels refl c.turns.flow w.run-passed.new.self c.turns.output c.match-state.output out _ _ _ _ w.run-passed.result.taken w.run-passed.result.given old (rw rest at last) put);
          }
    ]
