-- How the stages of `vol` behave (this project's profile).
use Rattle.std.specs.Prelude.{ℤ}
use Rattle.fx_frame_base.specs.Stage.{Acts}
use Rattle.fx_tap_pointwise.specs.Mapped.{MapState}
use Rattle.fx_tap_pointwise.specs.PerSample.{SampleArguments}
use Rattle.fx_tap_pointwise.specs.PerSampleState.{sample_acts}
use Rattle.fx_tap_pointwise.specs.Vol.{scaled_sample, vol_meaning}

-- how the stages of `vol` behave
abbrev pub vol_acts : Acts (MapState (SampleArguments ℤ)) (SampleArguments ℤ)
vol_acts = record (sample_acts scaled_sample) { meaning = vol_meaning }
