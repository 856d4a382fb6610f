use Rattle.fx_frame.proofs.TapLaws.{Took-tap, IsTapState-taken}
use Rattle.fx_tap_delays.proofs.tapped.TappedStage.take.Goals as goal

pub invariant_of-self : goal.invariant_of-self
invariant_of-self g c =
    rw c.offer.ensures
    (IsTapState-taken g.T.Tapping.taps g.met.T.Tapping.near _ _ c.args.frame c.tap-made.result.0 _ c.self.invariant (rw (← c.self.view_is) at c.requires.dry) (rw (← c.self.view_is) at c.requires.not_ended) (rw (← c.self.view_is) at c.requires.below_limit)
    c.len-held.ensures.line c.push.ensures.items c.push.ensures.capacity c.push.ensures.channels c.channels-channels.ensures.frame c.tap-made.ensures.channels c.tap-made.ensures.bound)

pub returns : goal.returns
returns g c =
    rw (← c.self.view_is, c.offer.ensures)
    (Took-tap g.T.Tapping.taps g.met.T.Tapping.near _ _ c.args.frame c.tap-made.result.0 _ c.self.invariant (rw (← c.self.view_is) at c.requires.dry) (rw (← c.self.view_is) at c.requires.not_ended)
    c.tap-made.ensures.frame c.tap-made.ensures.clips c.push.ensures.items c.push.ensures.capacity)
