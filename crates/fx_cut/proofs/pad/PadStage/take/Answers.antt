-- A frame comes: it stays in the line, or the oldest falls out, after its silence.
use Rattle.fx_cut.proofs.PadSteps.{Took-inside, Took-fallen, IsPad-inside, IsPad-fallen}
use Rattle.fx_cut.proofs.Fallen.{oldest-fits}
use Rattle.fx_cut.proofs.pad.PadStage.take.Goals as goal

pub returns-in_default : goal.returns-in_default
returns-in_default c =
    rw (← c.self.view_is, c.take.ensures)
    (Took-inside _ c.args.frame c.self.invariant (rw (← c.self.view_is) at c.requires.dry) (rw (← c.self.view_is) at c.requires.not_ended) _ c.in_default.ensures.oldest c.in_default.ensures.items)

pub invariant_of-self : goal.invariant_of-self
invariant_of-self c =
    rw c.take.ensures
    (IsPad-inside _ c.args.frame c.self.invariant (rw (← c.self.view_is) at c.requires.dry) (rw (← c.self.view_is) at c.requires.not_ended) _ c.in_default.ensures.oldest c.in_default.ensures.items
    c.len-held.ensures.line c.in_default.ensures.capacity c.in_default.ensures.channels (rw (← c.self.view_is) at c.requires.below_limit))

pub invariant_of-self-2 : goal.invariant_of-self-2
invariant_of-self-2 c =
    let dry = rw (← c.self.view_is) at c.requires.dry in
    let running = rw (← c.self.view_is) at c.requires.not_ended in
    let silent_frames = rw (c.len.ensures.count, c.taken.ensures) at c.silence_at-self-inside.ensures.silent in
    let fits = oldest-fits _ _ c.args.frame c.in-Some.oldest c.self.invariant.line c.self.invariant.channels c.in-Some.ensures.oldest (rw (← c.self.view_is) at c.requires.channels) c.channels-channels.ensures.frame in
    rw (c.silence_at-self-inside.ensures.same, c.set_pending.ensures, c.take.ensures)
    (IsPad-fallen _ c.args.frame c.self.invariant dry running _ c.in-Some.oldest _ c.in-Some.ensures.oldest c.in-Some.ensures.items
    c.len-held.ensures.line c.in-Some.ensures.capacity c.in-Some.ensures.channels (rw (← c.self.view_is) at c.requires.below_limit) silent_frames fits)

pub returns : goal.returns
returns c =
    let silent_frames = rw (c.len.ensures.count, c.taken.ensures) at c.silence_at-self-inside.ensures.silent in
    rw (c.silence_at-self-inside.ensures.same, ← c.self.view_is, c.set_pending.ensures, c.take.ensures)
    (Took-fallen _ c.args.frame c.self.invariant (rw (← c.self.view_is) at c.requires.dry) (rw (← c.self.view_is) at c.requires.not_ended) _ c.in-Some.oldest _ c.in-Some.ensures.oldest c.in-Some.ensures.items silent_frames)
