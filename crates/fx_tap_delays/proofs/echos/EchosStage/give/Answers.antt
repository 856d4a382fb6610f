use Rattle.std.proofs.Common.{rules, ◌≡◌, ◌<◌, ◌^◌, ◌∙◌, ap, length, arith, None}
use Rattle.fx_frame_base.specs.Frame.{silence}
use Rattle.fx_tap_delays.specs.EchosState.{lines_after}
use Rattle.fx_tap_delays.proofs.EchosSeries.{Small, small-silence}
use Rattle.fx_tap_delays.proofs.EchosLaws.{Gave-silence, IsEchos-drained, length-after}
use Rattle.fx_frame_base.proofs.Flags.{none-of}
use Rattle.fx_frame_base.proofs.Puts.{written_back}
use Rattle.fx_tap_delays.proofs.echos.EchosStage.give.Goals.{After-echoed-out}
use Rattle.fx_tap_delays.proofs.echos.EchosStage.give.Goals as goal

series : (c : After-echoed-out) → c.echoed-out.new.lines ≡ lines_after c.self.inside.channels c.self.inside.lines.items c.silence-silent_frame.result (silence c.self.inside.channels)
series c = rw c.deref_mut.ensures.value at c.echoed-out.ensures.lines

many : (c : After-echoed-out) → length c.echoed-out.new.lines ≡ length c.self.inside.lines.items
many c = ap length (series c) ∙ length-after c.self.inside.channels c.self.inside.lines.items c.silence-silent_frame.result (silence c.self.inside.channels)

pub invariant_of-self-2 : goal.invariant_of-self-2
invariant_of-self-2 c =
    let s = c.self.inside in
    let after = (goal.at.invariant_of-self-2 c).After-echoed-out in
    let none : s.core.pending ≡ None = none-of s.core.pending (search rules) in
    let some : 0 < s.tail = omega arith in
    let small : Small (2 ^ 31) c.silence-silent_frame.result = rw c.silence-silent_frame.ensures (small-silence (2 ^ 31) s.channels) in
    rw (written_back s.lines.items c.echoed-out.new.lines s.lines.len s.lines.ok.0 (many after), c.give_made.ensures)
    (IsEchos-drained _ c.echoed-out.new.lines c.silence-silent_frame.result c.echoed-out.result.1 c.self.invariant.0 none some small (series after) c.echoed-out.ensures.bound, c.self.invariant.1)

pub returns : goal.returns
returns c =
    let s = c.self.inside in
    let after = (goal.at.returns c).After-echoed-out in
    let none : s.core.pending ≡ None = none-of s.core.pending (search rules) in
    let some : 0 < s.tail = omega arith in
    let samples = rw (c.deref_mut.ensures.value, c.deref.ensures.value) at c.echoed-out.ensures.frame in
    let clips = rw (c.deref_mut.ensures.value, c.deref.ensures.value) at c.echoed-out.ensures.clips in
    rw (← c.self.view_is, written_back s.lines.items c.echoed-out.new.lines s.lines.len s.lines.ok.0 (many after), c.give_made.ensures)
    (Gave-silence _ c.echoed-out.new.lines c.silence-silent_frame.result c.echoed-out.result.0 c.echoed-out.result.1 c.self.invariant.0 none some c.silence-silent_frame.ensures (series after) samples clips c.echoed-out.ensures.fits.1)
