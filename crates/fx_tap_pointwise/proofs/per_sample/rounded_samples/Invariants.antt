use Rattle.std.proofs.Common.{◌≡◌, ◌≤◌, map, take}
use Rattle.fx_frame_base.specs.Rounded.{clips_rounded, samples_of}
use Rattle.fx_tap_pointwise.proofs.per_sample.rounded_samples.Given as goal

abbrev pub invariant-samples : goal.invariant-samples
invariant-samples g l = record {
  done : take l.place l.output ≡ samples_of (map (g.S.Sampling.rounded l.sampling) (take l.place l.input));
  counted : l.clips ≡ clips_rounded (map (g.S.Sampling.rounded l.sampling) (take l.place l.input));
  bound : l.clips ≤ l.place;
}
