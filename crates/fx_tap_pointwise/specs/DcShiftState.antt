-- How the stages of `dcshift` behave, and a shift in whole steps (this project's profile).
use Rattle.std.specs.Prelude.{ℕ, ◌*◌, nat_lt, ℤ, pos, ◌+ℤ◌, unsigned_abs, if◌then◌else◌}
use Rattle.std.specs.Int.{int_div_euclid, int_rem_euclid}
use Rattle.fx_frame_base.specs.Stage.{Acts}
use Rattle.fx_tap_pointwise.specs.Mapped.{MapState}
use Rattle.fx_tap_pointwise.specs.PerSample.{SampleArguments}
use Rattle.fx_tap_pointwise.specs.PerSampleState.{sample_acts}
use Rattle.fx_tap_pointwise.specs.DcShift.{shifted_sample, dcshift_meaning}

-- how the stages of `dcshift` behave
abbrev pub dcshift_acts : Acts (MapState (SampleArguments ℤ)) (SampleArguments ℤ)
dcshift_acts = record (sample_acts shifted_sample) { meaning = dcshift_meaning }

-- A shift in units, q to a step: the whole steps below it, and the units left over.
abbrev pub floor_of : ℕ → ℤ → ℤ
floor_of q units = int_div_euclid units (pos q)

abbrev pub over_of : ℕ → ℤ → ℕ
over_of q units = unsigned_abs (int_rem_euclid units (pos q))

-- the steps added to every sample: one more than those where more than half a step is left, as no shift leaves just half
abbrev pub steps_of : ℕ → ℤ → ℤ
steps_of q units = if nat_lt q (2 * over_of q units) then floor_of q units +ℤ pos 1 else floor_of q units
