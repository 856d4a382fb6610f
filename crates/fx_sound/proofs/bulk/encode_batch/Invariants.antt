use Rattle.std.proofs.Common.{◌≡◌, ◌*◌, ◌++◌, ◌≤ℤ◌, take, drop}
use Rattle.fx_frame_base.specs.Coding.{width_of}
use Rattle.fx_sound.specs.FrameCoding.{bytes_of, clips_of, largest_unclipped}
use Rattle.fx_sound.proofs.bulk.encode_batch.Given as goal

abbrev pub invariant-samples : goal.invariant-samples
invariant-samples l = record {
  written : l.out ≡ bytes_of l.coding (take l.k l.samples) ++ drop (l.k * width_of l.coding) l.initial.out;
  none : l.largest ≤ℤ largest_unclipped l.coding → clips_of l.coding (take l.k l.samples) ≡ 0;
}
