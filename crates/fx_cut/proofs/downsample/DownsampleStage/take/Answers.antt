-- A frame is kept, or left out.
use Rattle.std.proofs.Common.{arith, rules, ◌≡◌, Some}
use Rattle.fx_frame_base.specs.PendingFrame.{IsPending}
use Rattle.fx_cut.proofs.DownsampleLaws.{Took-kept, IsDownsample-kept, IsDownsample-left}
use Rattle.fx_cut.proofs.downsample.DownsampleStage.take.Goals as goal

pub invariant_of-self : goal.invariant_of-self
invariant_of-self c =
    rw c.take.ensures (IsDownsample-left _ c.args.frame c.self.invariant (rw (← c.self.view_is) at c.requires.dry) (rw (← c.self.view_is) at c.requires.not_ended)
    c.if-self-gt0.true (rw (← c.self.view_is) at c.requires.below_limit))

pub invariant_of-self-2 : goal.invariant_of-self-2
invariant_of-self-2 c =
    let none : c.self.inside.skip ≡ 0 = omega arith in
    let fits : IsPending c.self.inside.channels (Some c.args.frame) = search (rules, c.channels-channels.ensures) in
    rw c.offer.ensures (IsDownsample-kept _ c.args.frame c.self.invariant (rw (← c.self.view_is) at c.requires.dry) (rw (← c.self.view_is) at c.requires.not_ended)
    none (rw (← c.self.view_is) at c.requires.below_limit) fits)

pub returns : goal.returns
returns c =
    let none : c.self.inside.skip ≡ 0 = omega arith in
    rw (← c.self.view_is, c.offer.ensures)
    (Took-kept _ c.args.frame c.self.invariant (rw (← c.self.view_is) at c.requires.dry) (rw (← c.self.view_is) at c.requires.not_ended) none)
