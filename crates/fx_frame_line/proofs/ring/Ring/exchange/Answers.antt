use Rattle.std.proofs.Common.{◌≡◌, length, arith}
use Rattle.std.proofs.lemmas.Grind.{common_steps}
use Rattle.fx_frame_line.proofs.ManyFrames.{ring-filled}
use Rattle.fx_frame_line.proofs.RingLaws.{ring-push, ring-full, ring-out_read, keep-exchanged}
use Rattle.fx_frame_line.proofs.ring.Ring.exchange.Goals as goal

pub invariant_of-self : goal.invariant_of-self
invariant_of-self g c =
    let whole : length c.args.self.now.items ≡ c.args.self.now.capacity = c.is_full.ensures.0 (grind (arith, common_steps)) in
    let full : length c.self.inside.samples.items ≡ c.self.inside.samples.capacity = ring-filled _ _ _ _ _ c.self.view_is c.self.invariant whole in
    let after = rw c.copy_from_slice.ensures.after at c.extend_from_slice.ensures in
    (ring-push _ _ _ _ _ c.self.view_is c.self.invariant _ _ _ c.requires.frame (ring-full _ _ _ _ _ c.self.view_is c.self.invariant full) (keep-exchanged _ _ _ _ _ full c.read_into.ensures.count c.read_into.ensures.items after)).0

pub returns-clause-items : goal.returns-clause-items
returns-clause-items g c = λ is.
    let whole : length c.args.self.now.items ≡ c.args.self.now.capacity = c.is_full.ensures.0 (grind (arith, common_steps)) in
    let full : length c.self.inside.samples.items ≡ c.self.inside.samples.capacity = ring-filled _ _ _ _ _ c.self.view_is c.self.invariant whole in
    let after = rw c.copy_from_slice.ensures.after at c.extend_from_slice.ensures in
    (ring-push _ _ _ _ _ c.self.view_is c.self.invariant _ _ _ c.requires.frame (ring-full _ _ _ _ _ c.self.view_is c.self.invariant full) (keep-exchanged _ _ _ _ _ full c.read_into.ensures.count c.read_into.ensures.items after)).1

pub returns-clause-oldest : goal.returns-clause-oldest
returns-clause-oldest g c = λ is.
    let whole : length c.args.self.now.items ≡ c.args.self.now.capacity = c.is_full.ensures.0 (grind (arith, common_steps)) in
    let full : length c.self.inside.samples.items ≡ c.self.inside.samples.capacity = ring-filled _ _ _ _ _ c.self.view_is c.self.invariant whole in
    ring-out_read _ _ _ _ _ c.self.view_is c.self.invariant _ _ _ c.requires.frame full c.read_into.ensures.count c.read_into.ensures.read
