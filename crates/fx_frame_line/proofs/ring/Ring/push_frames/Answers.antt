use Rattle.std.proofs.Common.{◌≡◌, ◌+◌, min, arith}
use Rattle.fx_frame_line.proofs.ManyFrames.{ring-push_frames}
use Rattle.fx_frame_line.proofs.ring.Ring.push_frames.Goals as goal

pub invariant_of-self : goal.invariant_of-self
invariant_of-self g c =
    let within = c.self.invariant.within in
    let len : c.self.inside.len + c.min.result ≡ min (c.self.inside.len + c.args.count) c.self.inside.capacity = omega arith in
    (ring-push_frames _ _ _ _ _ c.self.view_is c.self.invariant _ _ _ _ c.requires len c.extend_from_slice.ensures).0

pub returns-clause-items : goal.returns-clause-items
returns-clause-items g c =
    let within = c.self.invariant.within in
    let len : c.self.inside.len + c.min.result ≡ min (c.self.inside.len + c.args.count) c.self.inside.capacity = omega arith in
    (ring-push_frames _ _ _ _ _ c.self.view_is c.self.invariant _ _ _ _ c.requires len c.extend_from_slice.ensures).1
