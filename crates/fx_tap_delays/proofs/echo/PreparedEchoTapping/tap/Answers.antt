use Rattle.std.proofs.Common.{◌∙◌, ap}
use Rattle.fx_frame_base.specs.Rounded.{clips_rounded, samples_of}
use Rattle.fx_tap_delays.proofs.EchoLaws.{echoed-is}
use Rattle.fx_tap_delays.specs.EchoWeights.{SoundsAsEcho}
use Rattle.fx_tap_delays.specs.Echo.{echo_with}
use Rattle.fx_tap_delays.specs.Tapping.{history_after}
use Rattle.fx_tap_delays.proofs.echo.PreparedEchoTapping.tap.Goals as goal

pub returns-clause-frame : goal.returns-clause-frame
returns-clause-frame c =
    let value = rw (← c.self.view_is) at c.sums-sums.ensures.value in
    rw (← c.self.view_is) (c.rounded_sums.ensures.frame ∙ ap samples_of (echoed-is (echo_with c.self.inside.channels c.self.inside.gain_in c.self.inside.gain_out c.self.inside.taps.items) (history_after c.args.line.now.items c.args.frame) c.sums-sums.result value))

pub returns-clause-clips : goal.returns-clause-clips
returns-clause-clips c =
    let value = rw (← c.self.view_is) at c.sums-sums.ensures.value in
    rw (← c.self.view_is) (c.rounded_sums.ensures.clips ∙ ap clips_rounded (echoed-is (echo_with c.self.inside.channels c.self.inside.gain_in c.self.inside.gain_out c.self.inside.taps.items) (history_after c.args.line.now.items c.args.frame) c.sums-sums.result value))

pub small_into-clips-requires-clause-sounds : goal.small_into-clips-requires-clause-sounds
small_into-clips-requires-clause-sounds c =
    let delivered : SoundsAsEcho (echo_with c.self.inside.channels c.self.inside.gain_in c.self.inside.gain_out c.self.inside.taps.items).echo c.in-Some.small = rw c.in-Some.is at c.self.invariant.1 in
    rw (← c.self.view_is) delivered
