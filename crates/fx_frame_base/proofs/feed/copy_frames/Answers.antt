use Rattle.std.proofs.Common.{◌*◌, ◌/◌, ◌≤◌, ◌∙◌, length, take, arith}
use Rattle.std.proofs.Math.Nat.{div-mul-le_self, mul-le-mul_right}
use Rattle.std.proofs.lemmas.List.{length-take-le}
use Rattle.fx_frame_base.proofs.Puts.{pieces-take}
use Rattle.fx_frame_base.proofs.Pieces.{pieces-front}
use Rattle.fx_frame_base.proofs.Feeding.{none-fit}
use Rattle.fx_frame_base.proofs.feed.copy_frames.Goals as goal

pub returns-clause-frames : goal.returns-clause-frames
returns-clause-frames c =
    let count = c.min-count.result in
    let channels = c.args.channels in
    let bound : count * channels ≤ length c.args.input.now / channels * channels = mul-le-mul_right channels (omega (arith, c.min-count.ensures)) in
    let free : count * channels ≤ length c.args.input.now = omega (arith, bound, div-mul-le_self (length c.args.input.now) channels) in
    rw c.copy_from_slice.ensures.after
    (pieces-front channels count (take (count * channels) c.args.input.now) _ (length-take-le _ _ free) ∙ pieces-take channels count c.args.input.now free)

pub returns-clause-none : goal.returns-clause-none
returns-clause-none c = λ bound.
    let count = c.min-count.result in
    let channels = c.args.channels in
    let fits : count * channels ≤ length c.args.output.now / channels * channels = mul-le-mul_right channels (omega (arith, c.min-count.ensures)) in
    none-fit count channels (length c.args.output.now) (omega (arith, fits, div-mul-le_self (length c.args.output.now) channels)) bound
