use Rattle.std.proofs.Common.{◌≤◌, arith, length}
use Rattle.fx_tap_fir.specs.Fir.{centre}
use Rattle.fx_tap_fir.proofs.FirLaws.{Took-due}
use Rattle.fx_tap_fir.proofs.fir.FirStage.take.Goals as goal

pub returns : goal.returns
returns c =
    let due : centre (length c.self.inside.kernel) ≤ length c.self.inside.line.items = omega arith in
    let samples = rw c.len-held.ensures.count at c.filtered_frame-out.ensures.frame in
    let clips = rw c.len-held.ensures.count at c.filtered_frame-out.ensures.clips in
    rw (← c.self.view_is, c.offer.ensures)
    (Took-due _ _ c.args.frame c.filtered_frame-out.result.0 c.filtered_frame-out.result.1 c.self.invariant (rw (← c.self.view_is) at c.requires.dry) (rw (← c.self.view_is) at c.requires.not_ended) due samples clips c.push-2.ensures.items)
