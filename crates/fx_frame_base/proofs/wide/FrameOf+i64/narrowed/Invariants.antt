use Rattle.std.proofs.Common.{◌≡◌, length, take}
use Rattle.fx_frame_base.proofs.wide.FrameOf+i64.narrowed.Given as goal

abbrev pub invariant-samples : goal.invariant-samples
invariant-samples l = record {
  places : length l.narrow ≡ 16;
  same : take l.place l.narrow ≡ take l.place l.samples;
}
