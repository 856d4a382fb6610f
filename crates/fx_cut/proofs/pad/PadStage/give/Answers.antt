-- Silence is given, or the pending frame; after the end the oldest frame of the line comes next.
use Rattle.std.proofs.Common.{refl, sym, ◌≡◌, ◌∙◌, ◌<◌, ◌+◌, true, ap, arith}
use Rattle.std.proofs.lemmas.Grind.{common_steps}
use Rattle.fx_frame_base.specs.declared.stage_core.StageCore.{StageCore}
use Rattle.fx_frame_base.specs.StageCore.{after_pending}
use Rattle.fx_cut.proofs.PadSteps.{Gave-silence, Gave-drawn, IsPad-drawn, left-given}
use Rattle.fx_cut.proofs.pad.PadStage.give.Goals as goal
use Rattle.fx_cut.proofs.pad.PadStage.give.Goals.{After-set_pending}

pub returns-then-self-gt0 : goal.returns-then-self-gt0
returns-then-self-gt0 c =
    let some : 0 < c.self.inside.silent = omega arith in
    rw (c.silence.ensures, ← c.self.view_is, c.give_made.ensures) (Gave-silence _ c.self.invariant some)

-- the pending frame was given
given : (c : After-set_pending) → c.give.new.self ≡ after_pending c.self.inside.core
given c = c.in_ok-frame.ensures.some refl

-- after the end
was-ended : (c : After-set_pending) → c.self.inside.core.ended ≡ true
was-ended c = ap (λ (k : StageCore). k.ended) (sym (given c)) ∙ sym c.is_ended.ensures ∙ c.if-not-is_ended.false

pub invariant_of-self-2 : goal.invariant_of-self-2
invariant_of-self-2 c =
    let e = c.next_padded-silent.ensures in
    let same = given (goal.at.invariant_of-self-2 c).After-set_pending in
    let silent_frames = rw (c.all.ensures, c.taken-frames.ensures, same) at e.silent in
    let none : c.self.inside.silent ≡ 0 = omega arith in
    let ended = was-ended (goal.at.invariant_of-self-2 c).After-set_pending in
    let no_clips : c.self.inside.core.clips + c.self.inside.core.pending_clips ≡ 0 = omega arith in
    rw (c.set_pending.ensures, same)
    (IsPad-drawn _ _ _ _ _ _ _ c.self.invariant ended no_clips e.oldest e.items silent_frames e.line e.capacity e.channels (rw c.self.invariant.channels at e.pending) (left-given _ c.in_ok-frame.frame c.self.invariant (sym c.in_ok-frame.ensures.frame) none ended))

pub returns : goal.returns
returns c =
    let e = c.next_padded-silent.ensures in
    let same = given (goal.at.returns c).After-set_pending in
    let silent_frames = rw (c.all.ensures, c.taken-frames.ensures, same) at e.silent in
    let none : c.self.inside.silent ≡ 0 = omega arith in
    let ended = was-ended (goal.at.returns c).After-set_pending in
    let no_clips : c.self.inside.core.clips + c.self.inside.core.pending_clips ≡ 0 = omega arith in
    rw (← c.self.view_is, c.set_pending.ensures, same)
    (Gave-drawn _ _ _ _ _ _ _ c.self.invariant ended no_clips e.oldest e.items silent_frames c.in_ok-frame.frame (sym c.in_ok-frame.ensures.frame) none ended refl refl)

pub invariant_of-self : goal.invariant_of-self
invariant_of-self c = rw c.give_made.ensures (grind (arith, common_steps))

pub invariant_of-self-then-not-is_ended : goal.invariant_of-self-then-not-is_ended
invariant_of-self-then-not-is_ended c = rw (c.in_ok-frame.ensures.some refl) (grind (arith, common_steps))
