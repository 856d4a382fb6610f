use Rattle.std.proofs.Common.{rules, ◌<◌, arith}
use Rattle.fx_frame_base.proofs.Flags.{none-of}
use Rattle.fx_tap_fir.proofs.FirLaws.{Gave-last}
use Rattle.fx_tap_fir.proofs.fir.FirStage.give.Goals as goal

pub returns : goal.returns
returns c =
    let some : 0 < c.self.inside.tail = omega arith in
    let samples = rw (c.len.ensures.count, c.centre_of.ensures, c.len-2.ensures) at c.filtered_frame-out.ensures.frame in
    let clips = rw (c.len.ensures.count, c.centre_of.ensures, c.len-2.ensures) at c.filtered_frame-out.ensures.clips in
    rw (← c.self.view_is, c.give_made.ensures)
    (Gave-last _ c.filtered_frame-out.result.0 c.filtered_frame-out.result.1 c.self.invariant (none-of c.self.inside.core.pending (search rules)) some samples clips c.filtered_frame-out.ensures.fits.1)
