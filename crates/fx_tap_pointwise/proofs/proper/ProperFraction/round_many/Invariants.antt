use Rattle.std.proofs.Common.{◌≡◌, map, take}
use Rattle.fx_tap_pointwise.specs.Fractions.{fraction_sample}
use Rattle.fx_frame_base.specs.Rounded.{clips_rounded, samples_of}
use Rattle.fx_tap_pointwise.proofs.proper.ProperFraction.round_many.Given as goal

-- the samples so far
abbrev pub invariant-samples : goal.invariant-samples
invariant-samples l = record {
  done : take l.place l.output ≡ samples_of (map (fraction_sample l.self) (take l.place l.input));
  unclipped : clips_rounded (map (fraction_sample l.self) (take l.place l.input)) ≡ 0;
}
