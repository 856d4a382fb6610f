use Rattle.std.proofs.Common.{◌≡◌, ◌≤◌, ◌*◌, ◌-◌, ◌++◌, length, take, drop}
use Rattle.fx_frame_base.specs.Coding.{width_of}
use Rattle.fx_sound.specs.FrameCoding.{bytes_of, clips_of}
use Rattle.fx_sound.proofs.bulk.encode_as.Given as goal

abbrev pub invariant-pieces : goal.invariant-pieces
invariant-pieces l = record {
  within : l.done ≤ length l.samples;
  written : l.out ≡ bytes_of l.coding (take l.done l.samples) ++ drop (l.done * width_of l.coding) l.initial.out;
  counted : l.clips ≡ clips_of l.coding (take l.done l.samples);
  bound : l.clips ≤ l.done;
}

abbrev pub decreases-pieces : goal.decreases-pieces
decreases-pieces l = length l.samples - l.done
