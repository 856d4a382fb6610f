use Rattle.std.proofs.Common.{length}
use Rattle.fx_frame_base.proofs.pipeline.+pass_in_place.Given as goal

abbrev pub decreases-pass_in_place : goal.decreases-pass_in_place
decreases-pass_in_place g l = length l.stages.now
