use Rattle.std.proofs.Common.{FitsSigned, take}
use Rattle.std.specs.Int.{w32}
use Rattle.std.specs.List.{All}
use Rattle.fx_frame_base.proofs.feed.see_samples.Given as goal

abbrev pub invariant-samples : goal.invariant-samples
invariant-samples l = record {
  seen : All (FitsSigned w32) (take l.place l.samples);
}
