use Rattle.std.proofs.Common.{◌≡◌, ◌≤◌, length, map, take}
use Rattle.fx_frame_base.specs.Rounded.{clips_rounded, samples_of}
use Rattle.fx_tap_pointwise.proofs.per_sample.rounded_frame.Given as goal

abbrev pub invariant-loop-channel : goal.invariant-loop-channel
invariant-loop-channel g l = record {
  size : length l.out ≡ 16;
  done : take l.channel l.out ≡ samples_of (map (g.S.Sampling.rounded l.sampling) (take l.channel l.fn.frame));
  counted : l.clips ≡ clips_rounded (map (g.S.Sampling.rounded l.sampling) (take l.channel l.fn.frame));
  bound : l.clips ≤ l.channel;
}
