use Rattle.std.proofs.Common.{rules, ◌∙◌, ◌≡◌, ap, arith}
use Rattle.std.proofs.lemmas.Grind.{common_steps}
use Rattle.std.proofs.lemmas.List.{take_all}
use Rattle.fx_frame_base.specs.Rounded.{clips_rounded, samples_of}
use Rattle.fx_tap_delays.proofs.EchoLaws.{echoed-is}
use Rattle.fx_tap_delays.specs.Echo.{echo_with}
use Rattle.fx_tap_delays.specs.Tapping.{history_after}
use Rattle.fx_tap_delays.proofs.echo.PreparedEcho.wide_into.Goals as goal

pub returns : goal.returns
returns c =
    let whole : c.frame_at-frame.result ≡ c.args.frame.now = c.frame_at-frame.ensures.frame ∙ take_all c.self.inside.channels c.args.frame.now (omega (arith, rw (← c.self.view_is) at c.requires.frame)) in
    let count = rw (← c.self.view_is) at c.requires.out in
    let value = rw (← c.self.view_is, whole) at c.sums-sums.ensures.value in
    let echoed = echoed-is (echo_with c.self.inside.channels c.self.inside.gain_in c.self.inside.gain_out c.self.inside.taps.items) (history_after c.args.line.now.items c.args.frame.now) c.sums-sums.result value in
    record {
      frame = rw (← c.self.view_is) ((rw count at c.sums_into.ensures.frame) ∙ ap samples_of echoed);
      clips = rw (← c.self.view_is) ((rw count at c.sums_into.ensures.clips) ∙ ap clips_rounded echoed);
      bound = first_of (search rules, grind (arith, common_steps));
    }
