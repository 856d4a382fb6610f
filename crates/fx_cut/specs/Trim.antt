-- The effect `trim` (sox(1), EFFECTS, trim): the frames after an odd number of positions.
use Rattle.std.specs.Prelude.{ℕ, ◌-◌, ◌%◌, ◌^◌, ◌==◌, ◌&&◌, max, nat_le, Bool, true, false, if◌then◌else◌, List, [], ◌∷◌, count_by, filter, length, map, slice_index_or, Option, Some, None}
use Rattle.std.specs.List.{range_with_len, list_all}
use Rattle.fx_fixed.specs.Extents.{end_distance, largest}
use Rattle.fx_fixed.specs.Positions.{places_of}
use Rattle.fx_fixed.specs.declared.positions.At.{At}
use Rattle.fx_fixed.specs.declared.positions.At.TheVariants.{Start, End}
use Rattle.fx_frame_base.specs.Frame.{Samples}
use Rattle.fx_frame_base.specs.Given.{plain}
use Rattle.fx_frame_base.specs.Stage.{StageKind, Given}

-- an odd number of the places are at n or before it
abbrev pub keeps : List ℕ → ℕ → Bool
keeps places n = count_by (λ q. nat_le q n) places % 2 == 1

-- the frames after an odd number of positions
abbrev pub trimmed : List At → List Samples → List Samples
trimmed ps x = map (λ n. slice_index_or x n []) (filter (keeps (places_of (length x) ps)) (range_with_len 0 (length x)))

-- the positions before the first one from the end
abbrev pub starts : List At → List At
starts [] = []
starts (Start p ∷ ps) = Start p ∷ starts ps
starts (End b ∷ ps) = []

-- a position is counted from the start
abbrev pub is_start : At → Bool
is_start (Start p) = true
is_start (End b) = false

-- the greatest position from the start
abbrev pub last_start : List At → ℕ
last_start [] = 0
last_start (Start p ∷ ps) = max p (last_start ps)
last_start (End b ∷ ps) = last_start ps

-- how many frames are given after `s` taken frames, with no end: those before each end position, as far as the positions before
-- the first one from the end keep them
abbrev pub trim_due : List At → ℕ → ℕ
trim_due ps s = count_by (keeps (places_of 0 (starts ps))) (range_with_len 0 (s - largest (map end_distance ps)))

-- an even number of positions, all from the start: nothing is kept from the greatest one on, which is the last where they
-- are in order
abbrev pub trim_enough : List At → Option ℕ
trim_enough ps = if list_all is_start ps && (length ps % 2 == 0) then Some (last_start ps) else None

-- what a `Trim` is made with
pub record TrimArguments : Type 0 where
  pub channels : ℕ
  pub positions : List At

-- those with so many channels and these positions
abbrev pub trim_with : ℕ → List At → TrimArguments
trim_with channels positions = record { channels = channels; positions = positions }

-- what it takes and gives, and when each frame is due
abbrev pub trim_kind : TrimArguments → StageKind
trim_kind r = record { inputs = r.channels; outputs = r.channels; line = largest (map end_distance r.positions); limit = 2 ^ 56; due = trim_due r.positions; maximum = λ n. n; enough = trim_enough r.positions }

-- what it gives for a sound
abbrev pub trim_meaning : TrimArguments → List Samples → List Given
trim_meaning r x = map plain (trimmed r.positions x)
