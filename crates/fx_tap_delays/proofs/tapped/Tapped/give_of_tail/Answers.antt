use Rattle.std.proofs.Common.{ap, ◌∙◌}
use Rattle.fx_frame_base.specs.Frame.{silence}
use Rattle.fx_frame.proofs.TapLaws.{Gave-tail}
use Rattle.fx_tap_delays.proofs.tapped.Tapped.give_of_tail.Goals as goal

pub returns : goal.returns
returns g c =
    rw (← c.self.view_is, c.give_made.ensures)
    (Gave-tail g.T.Tapping.taps g.met.T.Tapping.near _ _ c.silence-silent_frame.result c.tap-made.result.0 _ c.self.invariant (rw (← c.self.view_is) at c.requires.pending) (rw (← c.self.view_is) at c.requires.tail) (c.silence-silent_frame.ensures ∙ ap silence c.channels.ensures.value)
    c.tap-made.ensures.frame c.tap-made.ensures.clips c.tap-made.ensures.channels c.push.ensures.items c.push.ensures.capacity)
