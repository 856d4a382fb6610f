use Rattle.std.proofs.Common.{◌≡◌, ◌≤◌, ◌*◌, ◌++◌, take, drop}
use Rattle.fx_frame_base.specs.Coding.{width_of}
use Rattle.fx_sound.specs.FrameCoding.{bytes_of, clips_of}
use Rattle.fx_sound.proofs.bulk.encode_by_fours.Given as goal

abbrev pub invariant-fours : goal.invariant-fours
invariant-fours l = record {
  written : l.out ≡ bytes_of l.coding (take (4 * l.k) l.samples) ++ drop (4 * l.k * width_of l.coding) l.initial.out;
  counted : l.clips ≡ clips_of l.coding (take (4 * l.k) l.samples);
  bound : l.clips ≤ 4 * l.k;
}
