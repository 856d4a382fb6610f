use Rattle.std.proofs.Common.{sym}
use Rattle.fx_frame_line.proofs.RingLaws.{both-out, none-out, ring-push, ring-out_two, keep-two, ring-grown, ring-level}
use Rattle.fx_frame_line.proofs.ring.Ring.push_two.Goals as goal

pub returns-in-Some-clause-items : goal.returns-in-Some-clause-items
returns-in-Some-clause-items g c =
    let out = both-out _ _ _ _ c.in-Some.ensures (ring-out_two _ _ _ _ _ c.self.view_is c.self.invariant _ _ c.requires _ c.push_back-first_out.ensures.items _ _ c.push_back-first_out.ensures.value c.push_back-second_out.ensures.value) in
    (ring-push _ _ _ _ _ c.self.view_is c.self.invariant _ _ _ (sym c.requires) (ring-level _ _ _ _ _ c.self.view_is c.self.invariant _ _ (sym c.requires) out) (keep-two _ _ _ _ _ c.push_back-first_out.ensures.items c.push_back-second_out.ensures.items)).1

pub returns-in-Some-clause-oldest : goal.returns-in-Some-clause-oldest
returns-in-Some-clause-oldest g c = both-out _ _ _ _ c.in-Some.ensures (ring-out_two _ _ _ _ _ c.self.view_is c.self.invariant _ _ c.requires _ c.push_back-first_out.ensures.items _ _ c.push_back-first_out.ensures.value c.push_back-second_out.ensures.value)

pub returns-in-None-clause-items : goal.returns-in-None-clause-items
returns-in-None-clause-items g c =
    let out = none-out _ _ _ c.in-None.ensures (ring-out_two _ _ _ _ _ c.self.view_is c.self.invariant _ _ c.requires _ c.push_back-first_out.ensures.items _ _ c.push_back-first_out.ensures.value c.push_back-second_out.ensures.value) in
    (ring-push _ _ _ _ _ c.self.view_is c.self.invariant _ _ _ (sym c.requires) (ring-grown _ _ _ _ _ c.self.view_is c.self.invariant _ (sym c.requires) out) (keep-two _ _ _ _ _ c.push_back-first_out.ensures.items c.push_back-second_out.ensures.items)).1

pub returns-in-None-clause-oldest : goal.returns-in-None-clause-oldest
returns-in-None-clause-oldest g c = none-out _ _ _ c.in-None.ensures (ring-out_two _ _ _ _ _ c.self.view_is c.self.invariant _ _ c.requires _ c.push_back-first_out.ensures.items _ _ c.push_back-first_out.ensures.value c.push_back-second_out.ensures.value)
