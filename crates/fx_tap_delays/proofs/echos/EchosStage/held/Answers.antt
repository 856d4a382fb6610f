use Rattle.std.proofs.Common.{arith, ap, ◌≤◌, ◌+◌, ◌∙◌, length}
use Rattle.fx_tap_delays.specs.DelayExtents.{sum_of_delays}
use Rattle.fx_tap_delays.specs.EchosState.{frames_of_lines}
use Rattle.fx_frame_base.proofs.Rounds.{byte-le}
use Rattle.fx_tap_delays.proofs.EchosLaws.{frames-late}
use Rattle.fx_tap_delays.proofs.echos.EchosStage.held.Goals as goal

pub held_in-requires : goal.held_in-requires
held_in-requires c =
    let bound = frames-late _ c.self.invariant.0 in
    let whole = c.self.invariant.0.whole in
    rw c.deref.ensures.value (omega (arith, bound, whole))

pub overflow_add-result : goal.overflow_add-result
overflow_add-result c =
    let bound = frames-late _ c.self.invariant.0 in
    let whole = c.self.invariant.0.whole in
    let one = byte-le c.is_pending.result in
    let held = c.held_in.ensures ∙ ap (λ l. length (frames_of_lines l)) c.deref.ensures.value in
    omega (arith, bound, whole, one, held, c.from.ensures)

pub returns-clause-within : goal.returns-clause-within
returns-clause-within c =
    let bound = frames-late _ c.self.invariant.0 in
    let one = byte-le c.is_pending.result in
    let held = c.held_in.ensures ∙ ap (λ l. length (frames_of_lines l)) c.deref.ensures.value in
    let maximum : c.held_in.result + c.from.result ≤ sum_of_delays c.self.inside.taps.items + 1 = omega (arith, bound, one, held, c.from.ensures) in
    rw (← c.self.view_is) maximum
