-- The stage of `fade`: how it selects frames of a sound (this project's profile).
use Rattle.std.specs.Prelude.{ℕ, ◌+◌, nat_lt, Bool, true, if◌then◌else◌, List, [], ◌∷◌, Option, Some, None}
use Rattle.fx_frame_base.specs.Frame.{Samples}
use Rattle.fx_frame_base.specs.Stage.{Acts, Given}
use Rattle.fx_cut.specs.declared.fade.words.Fading.{Fading}
use Rattle.fx_cut.specs.Fade.{faded_frame, stop_in, fade_line, fade_due, fade_enough, FadeArguments, fade_meaning, weights}
use Rattle.fx_cut.specs.Selected.{Selects, SelectedState, selected_acts}

-- frame n lies before the stop
abbrev pub is_before : Option ℕ → ℕ → Bool
is_before None n = true
is_before (Some stop) n = nat_lt n stop

-- what is given of frame n
abbrev pub faded_here : Fading → Option ℕ → ℕ → Samples → List Given
faded_here f stop n frame = if is_before stop n then faded_frame f stop n frame ∷ [] else []

-- the stop in the shortest sound in which frame n falls out of the line before the end
abbrev pub stop_determined : Fading → ℕ → Option ℕ
stop_determined f n = stop_in (n + fade_line f + 1) f.stop

-- the weights of the frame at a place, as far as they are determined when it falls out of the line
abbrev pub weights_determined : Fading → ℕ → ℕ × ℕ
weights_determined f place = weights f (stop_determined f place) place

-- which frames `fade` gives: those before the stop, each with its weight
abbrev pub fade_selects : Selects FadeArguments
fade_selects = record {
  channels = λ r. r.channels;
  reach = λ r. fade_line r.shape;
  due = λ r. fade_due r.shape;
  enough = λ r. fade_enough r.shape.stop;
  gives = λ r frames. is_before (stop_in frames r.shape.stop);
  made = λ r frames. faded_frame r.shape (stop_in frames r.shape.stop);
  meaning = fade_meaning;
}

-- how the stages of `fade` behave
abbrev pub fade_acts : Acts (SelectedState FadeArguments) FadeArguments
fade_acts = selected_acts fade_selects
