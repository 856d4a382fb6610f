use Rattle.fx_tap_delays.specs.Echo.{echo_with}
use Rattle.fx_tap_delays.specs.EchoWeights.{SoundsAsEcho}
use Rattle.fx_tap_delays.proofs.echo.PreparedEchoTapping.tap_into.Goals as goal

pub small_into-requires-clause-sounds : goal.small_into-requires-clause-sounds
small_into-requires-clause-sounds c =
    let delivered : SoundsAsEcho (echo_with c.self.inside.channels c.self.inside.gain_in c.self.inside.gain_out c.self.inside.taps.items).echo c.in-Some.small = rw c.in-Some.is at c.self.invariant.1 in
    rw (← c.self.view_is) delivered
