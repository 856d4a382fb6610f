use Rattle.std.proofs.Common.{◌≡◌, ◌+◌, ◌*◌, ◌-◌, ◌∙◌, ap, arith, length, replicate}
use Rattle.fx_frame_line.proofs.RingLaws.{ring-len}
use Rattle.fx_frame_line.proofs.ManyFrames.{ring-before, ring-places_before}
use Rattle.fx_frame_line.proofs.ring.Ring.before_into.Goals as goal

pub overflow_add-self-inside : goal.overflow_add-self-inside
overflow_add-self-inside g c =
    let held = ring-len _ _ _ _ _ c.self.view_is c.self.invariant in
    omega (arith, held)

pub copy_part-requires-clause-within : goal.copy_part-requires-clause-within
copy_part-requires-clause-within g c =
    let at = ring-places_before _ _ _ _ _ c.self.view_is c.self.invariant c.args.late c.args.count c.silent_before-silent_frames.result c.saturating_sub-first.result c.requires.late c.silent_before-silent_frames.ensures (omega arith) in
    let long = rw (← c.self.view_is) at c.requires.len in
    let own : length c.split_at_mut-silent.result.1.now + c.silent_before-silent_frames.result * c.self.inside.channels ≡ length c.args.out.now = c.split_at_mut-silent.ensures.back_len in
    rw c.as_slices.ensures (omega (arith, at.whole, at.free, long, own))

pub returns : goal.returns
returns g c =
    let at = ring-places_before _ _ _ _ _ c.self.view_is c.self.invariant c.args.late c.args.count c.silent_before-silent_frames.result c.saturating_sub-first.result c.requires.late c.silent_before-silent_frames.ensures (omega arith) in
    let long = rw (← c.self.view_is) at c.requires.len in
    let own : length c.split_at_mut-silent.result.1.now ≡ (c.args.count - c.silent_before-silent_frames.result) * c.self.inside.channels = omega (arith, at.whole, long, c.split_at_mut-silent.ensures.back_len) in
    let silent = c.fill.ensures ∙ ap (λ n. replicate n c.args.silence) c.split_at_mut-silent.ensures.front_len in
    let copied = rw (own, c.as_slices.ensures) at c.copy_part.ensures in
    ring-before _ _ _ _ _ c.self.view_is c.self.invariant c.args.silence c.args.late c.args.count c.silent_before-silent_frames.result c.saturating_sub-first.result c.fill.new.out c.copy_part.new.out c.requires.late c.silent_before-silent_frames.ensures (omega arith) silent copied
