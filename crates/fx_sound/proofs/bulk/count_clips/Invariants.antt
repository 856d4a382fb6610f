use Rattle.std.proofs.Common.{◌≡◌, ◌≤◌, length, take}
use Rattle.fx_sound.specs.FrameCoding.{clips_of}
use Rattle.fx_sound.proofs.bulk.count_clips.Given as goal

abbrev pub invariant-samples : goal.invariant-samples
invariant-samples l = record {
  four : length l.bytes ≡ 4;
  counted : l.clips ≡ clips_of l.coding (take l.place l.samples);
  bound : l.clips ≤ l.place;
}
