use Rattle.std.proofs.Common.{◌+◌, ◌-◌, length}
use Rattle.fx_frame_base.proofs.Feeding.{Turned}
use Rattle.fx_frame_base.proofs.feed.feed_by_frames.Given as goal

abbrev pub invariant-turns : goal.invariant-turns
invariant-turns g l = Turned g.S.Stage.acts l.fn.stage l.input l.fn.output l.stage l.output l.read l.written l.taken l.given

abbrev pub decreases-turns : goal.decreases-turns
decreases-turns g l = length l.input - l.read + (length l.output - l.written)
