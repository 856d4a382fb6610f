-- The end came: the oldest frame of the line is taken out, after its silence.
use Rattle.std.proofs.Common.{refl, true, ◌≡◌}
use Rattle.fx_cut.proofs.PadSteps.{IsPad-drawn, Ended-pad, left-dry}
use Rattle.fx_cut.proofs.pad.PadStage.end.Goals as goal
use Rattle.fx_cut.proofs.pad.PadStage.end.Goals.{After-set_pending}

-- the end is counted
counted : (c : After-set_pending) → c.end.new.self ≡ record c.self.inside.core { ended = true }
counted c = c.end.ensures

pub invariant_of-self : goal.invariant_of-self
invariant_of-self c =
    let e = c.next_padded-silent.ensures in
    let ended = counted (goal.at.invariant_of-self c).After-set_pending in
    let silent_frames = rw (c.all.ensures, c.taken-frames.ensures, ended) at e.silent in
    let dry = rw (← c.self.view_is) at c.requires.dry in
    let running = rw (← c.self.view_is) at c.requires.not_ended in
    rw (c.set_pending.ensures, ended)
    (IsPad-drawn _ _ _ _ _ _ _ c.self.invariant refl c.self.invariant.core.no_clips e.oldest e.items silent_frames e.line e.capacity e.channels (rw c.self.invariant.channels at e.pending) (left-dry _ c.self.invariant dry running))

pub returns : goal.returns
returns c =
    let e = c.next_padded-silent.ensures in
    let ended = counted (goal.at.returns c).After-set_pending in
    let silent_frames = rw (c.all.ensures, c.taken-frames.ensures, ended) at e.silent in
    let dry = rw (← c.self.view_is) at c.requires.dry in
    let running = rw (← c.self.view_is) at c.requires.not_ended in
    rw (← c.self.view_is, c.set_pending.ensures, ended) (Ended-pad _ _ _ _ _ _ _ c.self.invariant refl c.self.invariant.core.no_clips e.oldest e.items silent_frames dry running refl)
