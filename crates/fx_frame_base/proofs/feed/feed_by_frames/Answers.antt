use Rattle.std.proofs.Common.{◌≡◌, ◌≤◌, length, sym, ap, ◌∙◌, arith}
use Rattle.fx_frame_base.specs.Feed.{IsHeld}
use Rattle.fx_frame_base.specs.Stage.{Took, kind}
use Rattle.fx_frame_base.proofs.Feeding.{Turned-none, Turned-gave, Turned-took}
use Rattle.fx_frame_base.proofs.feed.feed_by_frames.Goals as goal
use Rattle.fx_frame_base.proofs.feed.feed_by_frames.Goals.{in-Some, in_default+else-is_ended+else-is_spent+else-input-read}

pub turns-init : goal.turns-init
turns-init g c = Turned-none g.S.Stage.acts _ _ _

pub turns-preserved : goal.turns-preserved
turns-preserved g c =
    let acts = g.S.Stage.acts in
    let first = c.args.stage.now in
    let stays : acts.recipe c.turns.stage ≡ acts.recipe first = c.turns.invariant.recipe in
    let held : IsHeld acts c.match-give.stage = omega (arith, c.held-held.ensures.value, c.held-held.ensures.within) in
    elim c.match-give.branch [
      | in-Some w ↦
          let here : IsHeld acts c.give.new.self = rw (← w.stage-is) held in
          let gave = w.in-Some.ensures in
          let sides : length w.in-Some.frame ≡ (kind acts first).outputs = gave.channels ∙ ap (λ r. (acts.kind_of r).outputs) stays in
          let some : 1 ≤ length w.in-Some.frame = w.channels-written.ensures.frame.some in
          rw (w.stage-is, w.output-is, w.read-is, w.written-is, w.taken-is, w.given-is, w.channels-written.ensures.count)
          (Turned-gave acts first _ _ c.turns.stage c.give.new.self w.in-Some.frame c.turns.output w.put_frame.new.output _ _ _ _ c.turns.invariant (record { gave = gave; held = here }) some
          (omega (arith, c.turns-test.true, c.out_channels-outputs.ensures, c.turns.invariant.written_in)) w.put_frame.ensures w.put_frame.auto.output)
      | in_default+else-is_ended+else-is_spent+else-input-read w ↦
          let here : IsHeld acts w.take.new.self = rw (← w.stage-is) held in
          let same : c.give.new.self ≡ c.turns.stage = w.in_default.ensures.1 in
          let took : Took acts c.turns.stage w.take.new.self w.frame_at.result = rw same at w.take.ensures in
          let ended = rw same at w.is_ended.ensures.value in
          let spends = rw same at w.is_spent.ensures.value in
          let dry = rw same at w.is_dry-dry.ensures.value in
          let determined = rw same at w.is_dry-dry.ensures.dry in
          let given = determined (dry ∙ w.in_default.ensures.0) in
          let due = given.due (sym ended ∙ w.if-is_ended.false) in
          rw (w.stage-is, w.output-is, w.read-is, w.written-is, w.taken-is, w.given-is, c.in_channels-inputs.ensures)
          (Turned-took acts first _ _ c.turns.stage w.take.new.self w.frame_at.result c.turns.output _ _ _ _ c.turns.invariant
          (record { dry = w.in_default.ensures.0; due = due; not_ended = sym ended ∙ w.if-is_ended.false; not_spent = sym spends ∙ w.if-is_spent.false; took = took; held = here })
          c.requires.channels.0 (omega (arith, w.if-input-read.false, c.in_channels-inputs.ensures, c.turns.invariant.read_in))
          (omega (arith, c.turns-test.true, c.out_channels-outputs.ensures, c.turns.invariant.written_in)) c.turns.auto.output (rw c.in_channels-inputs.ensures at w.frame_at.ensures.frame))
    ]
