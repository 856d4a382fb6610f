use Rattle.std.proofs.Common.{arith}
use Rattle.fx_frame_line.proofs.RingLaws.{ring-len}
use Rattle.fx_frame_line.proofs.ring.Ring.silent_before.Goals as goal

pub returns : goal.returns
returns g c =
    let held = ring-len _ _ _ _ _ c.self.view_is c.self.invariant in
    omega (arith, held)
