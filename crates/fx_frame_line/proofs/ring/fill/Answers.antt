use Rattle.std.proofs.Common.{◌<◌, length, replicate, sym, ◌∙◌, arith}
use Rattle.std.proofs.lemmas.List.{get_or-replicate, length-replicate, same_lists}
use Rattle.fx_frame_line.proofs.ring.fill.Goals as goal

pub returns : goal.returns
returns g c =
    let long = c.loop-place.auto.out in
    same_lists c.loop-place.out (replicate (length c.args.out.now) c.args.sample) (long ∙ sym (length-replicate (length c.args.out.now) c.args.sample)) (λ k d h.
    let within : k < length c.args.out.now = omega (arith, long, h) in
    c.loop-place.invariant k (omega arith) d ∙ sym (get_or-replicate (length c.args.out.now) k c.args.sample d within))
