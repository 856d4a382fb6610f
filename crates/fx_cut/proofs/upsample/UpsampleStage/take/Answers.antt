use Rattle.std.proofs.Common.{rules, Some}
use Rattle.fx_frame_base.specs.PendingFrame.{IsPending}
use Rattle.fx_cut.proofs.UpsampleLaws.{IsUpsample-taken, Took-upsample}
use Rattle.fx_cut.proofs.upsample.UpsampleStage.take.Goals as goal

pub invariant_of-self : goal.invariant_of-self
invariant_of-self c =
    let fits : IsPending c.self.inside.channels (Some c.args.frame) = search (rules, c.channels-channels.ensures) in
    rw c.offer.ensures
    (IsUpsample-taken _ c.args.frame c.self.invariant (rw (← c.self.view_is) at c.requires.dry) (rw (← c.self.view_is) at c.requires.not_ended)
    (rw (← c.self.view_is) at c.requires.below_limit) fits)

pub returns : goal.returns
returns c = rw (← c.self.view_is, c.offer.ensures) (Took-upsample _ c.args.frame c.self.invariant (rw (← c.self.view_is) at c.requires.dry) (rw (← c.self.view_is) at c.requires.not_ended))
