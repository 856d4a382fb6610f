-- The effect `fade` (sox(1), EFFECTS, fade, of the type t): a linear rise at the start and a linear fall before the stop.
-- Overlapping fades multiply, and both weights and the sample are one fraction that is rounded once (this project's profile).
use Rattle.std.specs.Prelude.{ℕ, ℤ, pos, zero, suc, ◌-◌, ◌*◌, ◌*ℤ◌, ◌^◌, ◌≤◌, min, Bool, List, [], length, map, slice_index_or, Option, Some, None}
use Rattle.std.specs.List.{range_with_len}
use Rattle.fx_cut.specs.FadeExtents.{stop_line}
use Rattle.fx_fixed.specs.Positions.{place_of}
use Rattle.fx_fixed.specs.Rounding.{rounding}
use Rattle.fx_fixed.specs.declared.positions.At.{At}
use Rattle.fx_fixed.specs.declared.positions.At.TheVariants.{Start, End}
use Rattle.fx_frame_base.specs.Frame.{Samples}
use Rattle.fx_frame_base.specs.Stage.{Given, StageKind}
use Rattle.fx_frame_base.specs.Given.{given_samples}
use Rattle.fx_cut.specs.declared.fade.words.Fading.{Fading}

-- n parts of a length, at most 1, as a numerator and a denominator; a fade of no length has the weight 1
abbrev pub weight : ℕ → ℕ → ℕ × ℕ
weight zero n = (1, 1)
weight (suc len) n = (min n (suc len), suc len)

-- two weights multiplied
abbrev pub weight_product : ℕ × ℕ → ℕ × ℕ → ℕ × ℕ
weight_product v w = (v.0 * w.0, v.1 * w.1)

-- the weight of frame n, where the sound stops at a place or does not stop
abbrev pub weights : Fading → Option ℕ → ℕ → ℕ × ℕ
weights f None n = weight f.fade_in n
weights f (Some stop) n = weight_product (weight f.fade_in n) (weight f.fade_out (stop - n))

-- a sample times a weight, rounded
abbrev pub weighted : ℕ × ℕ → ℤ → ℤ × Bool
weighted w sample = rounding (sample *ℤ pos (w.0)) (w.1)

-- frame n with its weight
abbrev pub faded_frame : Fading → Option ℕ → ℕ → Samples → Given
faded_frame f stop n frame = given_samples (map (weighted (weights f stop n)) frame)

-- where the stop lies in a sound of `len` frames
abbrev pub stop_in : ℕ → Option At → Option ℕ
stop_in len None = None
stop_in len (Some at) = Some (place_of len at)

-- how many of `len` frames are given
abbrev pub until : Option ℕ → ℕ → ℕ
until None len = len
until (Some stop) len = min len stop

-- the frames up to the stop, or all of them, each with its weight
abbrev pub faded : Fading → List Samples → List Given
faded f x = map (λ n. faded_frame f (stop_in (length x) f.stop) n (slice_index_or x n [])) (range_with_len 0 (until (stop_in (length x) f.stop) (length x)))

-- the frames that a fade needs to look ahead
abbrev pub fade_line : Fading → ℕ
fade_line f = stop_line f.stop f.fade_out

-- how many frames are given after `s` taken frames, with no end
abbrev pub due_by : Option At → ℕ → ℕ → ℕ
due_by (Some (End b)) fade_out s = s - b - fade_out
due_by (Some (Start p)) fade_out s = min s p
due_by None fade_out s = s

abbrev pub fade_due : Fading → ℕ → ℕ
fade_due f s = due_by f.stop f.fade_out s

-- a stop from the start is enough
abbrev pub fade_enough : Option At → Option ℕ
fade_enough (Some (Start p)) = Some p
fade_enough _ = None

-- what a `Fade` is made with
pub record FadeArguments : Type 0 where
  pub channels : ℕ
  pub shape : Fading

-- those with so many channels, a rise, a stop and a fall
abbrev pub fade_with : ℕ → ℕ → Option At → ℕ → FadeArguments
fade_with channels fade_in stop fade_out = record { channels = channels; shape = record { fade_in = fade_in; stop = stop; fade_out = fade_out } }

-- fades of at most 2^40 frames
pub record IsShape (f : Fading) : Type 0 where
  pub short_in : f.fade_in ≤ 2 ^ 40
  pub short_out : f.fade_out ≤ 2 ^ 40

-- what it takes and gives, and when each frame is due
abbrev pub fade_kind : FadeArguments → StageKind
fade_kind r = record { inputs = r.channels; outputs = r.channels; line = fade_line r.shape; limit = 2 ^ 56; due = fade_due r.shape; maximum = λ n. n; enough = fade_enough r.shape.stop }

-- what it gives for a sound
abbrev pub fade_meaning : FadeArguments → List Samples → List Given
fade_meaning r x = faded r.shape x
