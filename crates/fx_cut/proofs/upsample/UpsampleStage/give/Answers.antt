use Rattle.std.proofs.Common.{rules, ◌<◌, arith}
use Rattle.fx_frame_base.proofs.Flags.{none-of}
use Rattle.fx_cut.proofs.UpsampleLaws.{Gave-silent}
use Rattle.fx_cut.proofs.upsample.UpsampleStage.give.Goals as goal

pub returns : goal.returns
returns c =
    let some : 0 < c.self.inside.silent = omega arith in
    rw (c.silence.ensures, ← c.self.view_is, c.give_made.ensures) (Gave-silent _ c.self.invariant (none-of c.self.inside.core.pending (search rules)) some)
