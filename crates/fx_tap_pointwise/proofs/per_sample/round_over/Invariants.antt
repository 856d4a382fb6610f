use Rattle.std.proofs.Common.{◌≡◌, ◌≤◌, map, take, drop}
use Rattle.fx_frame_base.specs.Rounded.{clips_rounded, samples_of}
use Rattle.fx_tap_pointwise.proofs.per_sample.round_over.Given as goal

abbrev pub invariant-samples : goal.invariant-samples
invariant-samples g l = record {
  done : take l.place l.samples ≡ samples_of (map (g.S.Sampling.rounded l.sampling) (take l.place l.fn.samples));
  rest : drop l.place l.samples ≡ drop l.place l.fn.samples;
  counted : l.clips ≡ clips_rounded (map (g.S.Sampling.rounded l.sampling) (take l.place l.fn.samples));
  bound : l.clips ≤ l.place;
}
