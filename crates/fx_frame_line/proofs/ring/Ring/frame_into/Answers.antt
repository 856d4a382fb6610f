use Rattle.std.proofs.Common.{arith}
use Rattle.fx_frame_line.proofs.RingLaws.{ring-frame, ring-part, ring-fits}
use Rattle.fx_frame_line.proofs.ring.Ring.frame_into.Goals as goal

pub overflow_mul-place : goal.overflow_mul-place
overflow_mul-place g c =
    let at = ring-part _ _ _ _ _ c.self.view_is c.self.invariant _ c.requires.place in
    omega (arith, at.1)

pub copy_part-requires-clause-within : goal.copy_part-requires-clause-within
copy_part-requires-clause-within g c =
    let at = ring-part _ _ _ _ _ c.self.view_is c.self.invariant _ c.requires.place in
    rw (c.as_slices.ensures, c.requires.len) at.0

pub copy_part-requires-clause-small : goal.copy_part-requires-clause-small
copy_part-requires-clause-small g c =
    let fits = ring-fits _ _ _ _ _ c.self.view_is c.self.invariant in
    rw c.as_slices.ensures (omega (arith, fits))

pub returns : goal.returns
returns g c = ring-frame _ _ _ _ _ c.self.view_is c.self.invariant _ _ c.requires.place (rw (← c.as_slices.ensures, ← c.requires.len) c.copy_part.ensures)
