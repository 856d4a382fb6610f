-- The effect `vol` (sox(1), EFFECTS, vol): each sample times the gain. Rounding and clips are this project's profile.
use Rattle.std.specs.Prelude.{ℤ, ◌*ℤ◌, List, Bool, map, ◌^◌}
use Rattle.fx_fixed.specs.Rounding.{rounding}
use Rattle.fx_frame_base.specs.Frame.{Samples}
use Rattle.fx_frame_base.specs.Stage.{Given}
use Rattle.fx_tap_pointwise.specs.PerSample.{SampleArguments}
use Rattle.fx_frame.specs.Made.{rounded_given}

-- a sample times a gain in trillionths, rounded
abbrev pub scaled_sample : ℤ → ℤ → ℤ × Bool
scaled_sample gain sample = rounding (gain *ℤ sample) (10 ^ 12)

-- what `vol` gives for a sound
abbrev pub vol : ℤ → List Samples → List Given
vol gain x = map (rounded_given (scaled_sample gain)) x

-- the same, by its arguments
abbrev pub vol_meaning : SampleArguments ℤ → List Samples → List Given
vol_meaning a x = vol a.sampling x
