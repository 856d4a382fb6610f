use Rattle.fx_frame_line.proofs.RingLaws.{ring-push}
use Rattle.fx_frame_line.proofs.ring.Ring.push.Goals as goal

pub invariant_of-self : goal.invariant_of-self
invariant_of-self g c = (ring-push _ _ _ _ _ c.self.view_is c.self.invariant _ _ _ c.requires c.min-self-inside.ensures c.extend_from_slice.ensures).0

pub returns-clause-items : goal.returns-clause-items
returns-clause-items g c = (ring-push _ _ _ _ _ c.self.view_is c.self.invariant _ _ _ c.requires c.min-self-inside.ensures c.extend_from_slice.ensures).1
