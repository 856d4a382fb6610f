use Rattle.std.proofs.Common.{None, Some, sym}
use Rattle.fx_frame_line.proofs.RingLaws.{ring-push, ring-out_one, ring-grown, ring-level}
use Rattle.fx_frame_line.proofs.ring.Ring.push_one.Goals as goal

pub returns-in-Some-clause-items : goal.returns-in-Some-clause-items
returns-in-Some-clause-items g c =
    let out = ring-out_one _ _ _ _ _ c.self.view_is c.self.invariant _ c.requires (Some c.in-Some.oldest) c.in-Some.ensures.value in
    (ring-push _ _ _ _ _ c.self.view_is c.self.invariant _ _ _ (sym c.requires) (ring-level _ _ _ _ _ c.self.view_is c.self.invariant _ _ (sym c.requires) out) c.push_back.ensures.items).1

pub returns-in-Some-clause-oldest : goal.returns-in-Some-clause-oldest
returns-in-Some-clause-oldest g c = ring-out_one _ _ _ _ _ c.self.view_is c.self.invariant _ c.requires (Some c.in-Some.oldest) c.in-Some.ensures.value

pub returns-in-None-clause-items : goal.returns-in-None-clause-items
returns-in-None-clause-items g c =
    let out = ring-out_one _ _ _ _ _ c.self.view_is c.self.invariant _ c.requires None c.in-None.ensures.value in
    (ring-push _ _ _ _ _ c.self.view_is c.self.invariant _ _ _ (sym c.requires) (ring-grown _ _ _ _ _ c.self.view_is c.self.invariant _ (sym c.requires) out) c.push_back.ensures.items).1

pub returns-in-None-clause-oldest : goal.returns-in-None-clause-oldest
returns-in-None-clause-oldest g c = ring-out_one _ _ _ _ _ c.self.view_is c.self.invariant _ c.requires None c.in-None.ensures.value
