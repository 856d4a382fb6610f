-- A frame that is given, with how many of its samples were clipped (this project's profile).
use Rattle.std.specs.Prelude.{ℤ, List, Bool}
use Rattle.fx_frame_base.specs.Frame.{Samples}
use Rattle.fx_frame_base.specs.Stage.{Given}
use Rattle.fx_frame_base.specs.Rounded.{clips_rounded, samples_of}

-- a frame without clips
abbrev pub plain : Samples → Given
plain frame = record { samples = frame; clips = 0 }

-- the frame of rounded samples, and its clips
abbrev pub given_samples : List (ℤ × Bool) → Given
given_samples rounds = record { samples = samples_of rounds; clips = clips_rounded rounds }
