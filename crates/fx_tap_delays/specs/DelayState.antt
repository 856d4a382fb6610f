-- How the stages of `delay` behave (this project's profile).
use Rattle.std.specs.Prelude.{ℕ, ℤ, ◌≡◌, ◌<◌, ◌≤◌, ◌-◌, ◌⊎◌, List, [], ◌∷◌, ◌++◌, Result, if◌then◌else◌, length, nat_lt, replicate, slice_index, slice_index_or, take}
use Rattle.fx_fixed.specs.Extents.{largest}
use Rattle.fx_frame_base.specs.declared.stage.ThawFault.{ThawFault}
use Rattle.fx_frame_base.specs.Frame.{Samples, silence}
use Rattle.fx_frame_base.specs.Lists.{pieces}
use Rattle.fx_frame_base.specs.Stage.{Acts, Restores}
use Rattle.fx_frame_line.specs.Line.{Frames}
use Rattle.fx_frame_base.specs.Given.{plain}
use Rattle.fx_frame.specs.Tapped.{IsTapState, Taps, TapState, tap_acts}
use Rattle.fx_tap_delays.specs.Delay.{delayed_frame, delayed}

-- how `delay` makes frames; no sample is clipped
abbrev pub delay_taps : Taps (List ℕ)
delay_taps = record { channels = length; reach = largest; max_clips = λ delays. 0; made = λ delays history. plain (delayed_frame delays history) }

-- how the stages of `delay` behave
abbrev pub delay_acts : Acts (TapState (List ℕ)) (List ℕ)
delay_acts = record (tap_acts delay_taps) { meaning = delayed }

-- what `thaw` of `delay` returns
abbrev pub RestoresDelay : List ℕ → List Samples → List ℕ → Result (TapState (List ℕ)) ThawFault → Type 0
RestoresDelay delays frames numbers result = Restores delay_acts (IsTapState delay_taps) delays frames numbers result

-- no channel that is delayed has a delay of fewer frames
abbrev pub NoShorterDelay : ℕ → List ℕ → Type 0
NoShorterDelay count delays = (k : ℕ) → k < length delays → (slice_index delays k ≡ 0) ⊎ (count ≤ slice_index delays k)

-- the frame that leaves a line when this one comes; silence where there is free space
abbrev pub frame_leaving : Frames ℤ → Samples → Samples
frame_leaving line frame = if nat_lt (length line.items) line.capacity then silence (length frame) else slice_index_or (line.items ++ frame ∷ []) 0 []

-- the frames that leave a line when the first `count` of these come, with silence for its free space
abbrev pub frames_leaving : Frames ℤ → ℕ → List ℤ → List Samples
frames_leaving line count coming = take count (replicate (line.capacity - length line.items) (silence line.channels) ++ (line.items ++ pieces line.channels count coming))
