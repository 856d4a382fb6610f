use Rattle.std.proofs.Common.{◌≡◌, map, take, drop}
use Rattle.fx_tap_pointwise.specs.Fractions.{fraction_sample}
use Rattle.fx_frame_base.specs.Rounded.{clips_rounded, samples_of}
use Rattle.fx_tap_pointwise.proofs.proper.ProperFraction.round_over.Given as goal

-- the samples so far
abbrev pub invariant-samples : goal.invariant-samples
invariant-samples l = record {
  done : take l.place l.samples ≡ samples_of (map (fraction_sample l.self) (take l.place l.fn.samples));
  rest : drop l.place l.samples ≡ drop l.place l.fn.samples;
  unclipped : clips_rounded (map (fraction_sample l.self) (take l.place l.fn.samples)) ≡ 0;
}
