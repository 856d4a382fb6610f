use Rattle.fx_frame_line.proofs.RingLaws.{shaped}
use Rattle.fx_frame_line.proofs.ring.Ring.channels.Goals as goal

pub returns-clause-shape : goal.returns-clause-shape
returns-clause-shape g c = shaped _ _ _ _ _ c.self.view_is c.self.invariant
