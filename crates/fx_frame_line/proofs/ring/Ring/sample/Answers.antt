use Rattle.std.proofs.Common.{arith}
use Rattle.fx_frame_line.proofs.RingLaws.{ring-sample, ring-place, not-absent}
use Rattle.fx_frame_line.proofs.ring.Ring.sample.Goals as goal

pub overflow_mul-place : goal.overflow_mul-place
overflow_mul-place g c =
    let at = ring-place _ _ _ _ _ c.self.view_is c.self.invariant _ _ c.requires.place c.requires.channel in
    omega (arith, at.1)

pub overflow_add-place : goal.overflow_add-place
overflow_add-place g c =
    let at = ring-place _ _ _ _ _ c.self.view_is c.self.invariant _ _ c.requires.place c.requires.channel in
    omega (arith, at.1)

pub unreachable-requires : goal.unreachable-requires
unreachable-requires g c =
    let at = ring-place _ _ _ _ _ c.self.view_is c.self.invariant _ _ c.requires.place c.requires.channel in
    not-absent _ _ at.0 c.in-None.ensures

pub returns : goal.returns
returns g c = λ d. ring-sample _ _ _ _ _ c.self.view_is c.self.invariant _ _ _ d c.requires.place c.requires.channel c.in-Some.ensures
