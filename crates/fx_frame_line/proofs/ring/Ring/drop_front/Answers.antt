use Rattle.fx_frame_line.proofs.RingLaws.{ring-drop}
use Rattle.fx_frame_line.proofs.ring.Ring.drop_front.Goals as goal

pub invariant_of-self : goal.invariant_of-self
invariant_of-self g c = (ring-drop _ _ _ _ _ c.self.view_is c.self.invariant _ _ c.saturating_sub-self-inside.ensures c.truncate_front.ensures).0

pub returns-clause-items : goal.returns-clause-items
returns-clause-items g c = (ring-drop _ _ _ _ _ c.self.view_is c.self.invariant _ _ c.saturating_sub-self-inside.ensures c.truncate_front.ensures).1
