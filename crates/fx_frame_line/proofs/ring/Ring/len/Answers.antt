use Rattle.fx_frame_line.proofs.RingLaws.{shaped, ring-len}
use Rattle.fx_frame_line.proofs.ring.Ring.len.Goals as goal

pub returns-clause-len : goal.returns-clause-len
returns-clause-len g c = ring-len _ _ _ _ _ c.self.view_is c.self.invariant

pub returns-clause-shape : goal.returns-clause-shape
returns-clause-shape g c = shaped _ _ _ _ _ c.self.view_is c.self.invariant
