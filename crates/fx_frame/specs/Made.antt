-- What is made of frames, one output frame for each input frame (this project's profile).
use Rattle.std.specs.Prelude.{List, map, ℕ, ℤ, Bool}
use Rattle.fx_frame_base.specs.Frame.{Samples}
use Rattle.fx_frame_base.specs.Stage.{Given}
use Rattle.fx_frame_base.specs.Holds.{total}
use Rattle.fx_frame_base.specs.Given.{given_samples}

-- the output frames of a mapping
abbrev pub made_of : (Samples → Given) → List Samples → List Samples
made_of mapped xs = map (λ x. (mapped x).samples) xs

-- how many samples were clipped in them
abbrev pub clips_in : (Samples → Given) → List Samples → ℕ
clips_in mapped xs = total (λ x. (mapped x).clips) xs

-- the output frame for a frame
abbrev pub rounded_given : (ℤ → ℤ × Bool) → Samples → Given
rounded_given rounded frame = given_samples (map rounded frame)
