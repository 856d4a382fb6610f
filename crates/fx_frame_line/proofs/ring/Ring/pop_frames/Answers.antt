use Rattle.std.proofs.Common.{◌≡◌, ◌∙◌, ◌≤◌, ◌-◌, [], append-nil, drop, length, refl, take, arith}
use Rattle.std.proofs.lemmas.List.{drop_all}
use Rattle.fx_frame_line.proofs.RingLaws.{ring-len}
use Rattle.fx_frame_line.proofs.ManyFrames.{ring-enough, ring-exchanged, ring-popped}
use Rattle.fx_frame_line.proofs.ring.Ring.pop_frames.Goals as goal

pub overflow_sub-self : goal.overflow_sub-self
overflow_sub-self g c =
    let held = ring-len _ _ _ _ _ c.self.view_is c.self.invariant in
    omega (arith, held, c.requires.bound)

pub invariant_of-self : goal.invariant_of-self
invariant_of-self g c =
    let held = ring-len _ _ _ _ _ c.self.view_is c.self.invariant in
    let bound : c.args.count ≤ c.self.inside.len = omega (arith, held, c.requires.bound) in
    (ring-popped _ _ _ _ _ c.self.view_is c.self.invariant (c.self.inside.len - c.args.count) _ _ _ _ c.requires.free bound refl c.read_into.ensures.count c.read_into.ensures.items).0

pub returns-clause-items : goal.returns-clause-items
returns-clause-items g c =
    let held = ring-len _ _ _ _ _ c.self.view_is c.self.invariant in
    let bound : c.args.count ≤ c.self.inside.len = omega (arith, held, c.requires.bound) in
    (ring-popped _ _ _ _ _ c.self.view_is c.self.invariant (c.self.inside.len - c.args.count) _ _ _ _ c.requires.free bound refl c.read_into.ensures.count c.read_into.ensures.items).1

pub returns-clause-oldest : goal.returns-clause-oldest
returns-clause-oldest g c =
    let held = ring-len _ _ _ _ _ c.self.view_is c.self.invariant in
    let bound : c.args.count ≤ c.self.inside.len = omega (arith, held, c.requires.bound) in
    let enough = ring-enough _ _ _ _ _ c.self.view_is c.self.invariant c.args.out.now c.args.count c.requires.free bound in
    let all : c.read_into.result ≡ length c.args.out.now = omega (arith, c.read_into.ensures.count, enough) in
    let none : drop c.read_into.result c.args.out.now ≡ [] = drop_all c.read_into.result c.args.out.now (omega (arith, all)) in
    let read : c.read_into.new.dst ≡ take (length c.args.out.now) c.self.inside.samples.items = c.read_into.ensures.read ∙ rw (none, append-nil, all) refl in
    ring-exchanged _ _ _ _ _ c.self.view_is c.self.invariant _ _ _ c.requires.free bound read
