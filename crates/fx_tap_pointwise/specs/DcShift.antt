-- The effect `dcshift` (sox(1), EFFECTS, dcshift): each sample plus the shift, of which 1 is the greatest amplitude.
-- Rounding and clips are this project's profile.
use Rattle.std.specs.Prelude.{◌^◌, ℤ, pos, ◌+ℤ◌, ◌*ℤ◌, List, Bool, map}
use Rattle.fx_fixed.specs.Rounding.{rounding}
use Rattle.fx_frame_base.specs.Frame.{Samples}
use Rattle.fx_frame_base.specs.Stage.{Given}
use Rattle.fx_tap_pointwise.specs.PerSample.{SampleArguments}
use Rattle.fx_frame.specs.Made.{rounded_given}

-- a shift in units, 10 ^ 12 of them to a step of a sample
abbrev pub units_of : ℤ → ℤ
units_of shift = shift *ℤ pos (2 ^ 31)

-- a sample plus a shift in trillionths, rounded
abbrev pub shifted_sample : ℤ → ℤ → ℤ × Bool
shifted_sample shift sample = rounding ((sample *ℤ pos (10 ^ 12)) +ℤ units_of shift) (10 ^ 12)

-- what `dcshift` gives for a sound
abbrev pub dcshift : ℤ → List Samples → List Given
dcshift shift x = map (rounded_given (shifted_sample shift)) x

-- the same, by its arguments
abbrev pub dcshift_meaning : SampleArguments ℤ → List Samples → List Given
dcshift_meaning a x = dcshift a.sampling x
