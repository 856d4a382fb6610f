use Rattle.std.proofs.Common.{◌≡◌, arith, length}
use Rattle.std.proofs.lemmas.Grind.{common_steps}
use Rattle.std.proofs.lemmas.List.{length-append}
use Rattle.fx_frame_base.specs.StageCore.{pending_frames}
use Rattle.fx_tap_delays.specs.EchosState.{frames_of_lines}
use Rattle.fx_tap_delays.proofs.EchosLaws.{frames-late}
use Rattle.fx_tap_delays.proofs.echos.EchosStage.is_dry.Goals as goal

pub returns-then-not-is_pending-clause-lined : goal.returns-then-not-is_pending-clause-lined
returns-then-not-is_pending-clause-lined c =
    let bound = frames-late _ c.self.invariant.0 in
    let none : length (pending_frames c.self.inside.core) ≡ 0 = grind (arith, common_steps) in
    rw (← c.self.view_is) (λ tail. omega (arith, bound, none, length-append (frames_of_lines c.self.inside.lines.items) (pending_frames c.self.inside.core)))
