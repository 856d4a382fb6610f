use Rattle.std.proofs.Common.{◌≡◌, ◌≤◌, map, take}
use Rattle.fx_frame_base.specs.Rounded.{clips_rounded, samples_of}
use Rattle.fx_tap_pointwise.specs.DcShift.{shifted_sample}
use Rattle.fx_tap_pointwise.proofs.dcshift.WholeShift.shift_samples.Given as goal

-- the samples so far are shifted, and their clips counted
abbrev pub invariant-samples : goal.invariant-samples
invariant-samples l = record {
  done : take l.place l.output ≡ samples_of (map (shifted_sample l.self) (take l.place l.input));
  counted : l.clips ≡ clips_rounded (map (shifted_sample l.self) (take l.place l.input));
  bound : l.clips ≤ l.place;
}
