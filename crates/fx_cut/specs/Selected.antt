-- A stage whose frames wait in a line until it is determined whether each is given, and with which samples (this project's
-- profile).
use Rattle.std.specs.Prelude.{ℕ, ℤ, ◌+◌, ◌-◌, ◌<◌, ◌≤◌, ◌≡◌, min, if◌then◌else◌, Bool, true, false, List, [], ◌∷◌, ◌++◌, count_by, flat_map, length, map, Option, Some, None, option_to_list, is_none, take}
use Rattle.std.specs.List.{range_with_len, enumerate_from}
use Rattle.std.specs.Int.{w32}
use Rattle.fx_frame_base.specs.Frame.{Samples}
use Rattle.fx_frame_base.specs.Lists.{pieces}
use Rattle.fx_frame_line.specs.Line.{Frames, IsLine}
use Rattle.fx_frame_base.specs.Stage.{Acts, Given, StageKind, coming, max_taken}
use Rattle.fx_frame_base.specs.StageCore.{IsUnclippedCore, core_counts, pending_frames}
use Rattle.fx_frame_base.specs.declared.stage_core.StageCore.{StageCore}
use Rattle.fx_frame_base.specs.Given.{plain}

-- what effects of such arguments give of the frames of a sound
pub record Selects (M : Type 0) : Type 0 where
  pub channels : M → ℕ
  -- the reach: that many frames later it is determined what is given of a frame
  pub reach : M → ℕ
  -- how many frames are given after that many taken frames, with no end
  pub due : M → ℕ → ℕ
  -- after that many frames nothing more is given
  pub enough : M → Option ℕ
  -- in a sound of that many frames, the frame at a place is given
  pub gives : M → ℕ → ℕ → Bool
  -- and its samples are these
  pub made : M → ℕ → ℕ → Samples → Given
  -- what is given for a whole sound
  pub meaning : M → List Samples → List Given

-- `count` frames of a block came into a line, and in their places are the oldest of all, which fell out of it
abbrev pub GaveOldest : Frames ℤ → ℕ → List ℤ → List ℤ → Type 0
GaveOldest line count old new = pieces line.channels count new ≡ take count (line.items ++ pieces line.channels count old)

-- what a stage with such arguments stores
pub record SelectedState (M : Type 0) : Type 0 where
  pub core : StageCore
  pub line : Frames ℤ
  pub arguments : M

module _ {M : Type 0} (selects : Selects M) where
  -- the shortest sound in which it is determined before the end what is given of the frame at this place
  abbrev pub determined_in : M → ℕ → ℕ
  determined_in m place = place + selects.reach m + 1

  -- what is given of the frame at this place, in a sound of `frames` frames
  abbrev pub selected_here : M → ℕ → ℕ → Samples → List Given
  selected_here m frames place frame = if selects.gives m frames place then selects.made m frames place frame ∷ [] else []

  -- what is given of these frames, the first of which is that at a place, in a sound of `frames` frames
  abbrev pub selected_from : M → ℕ → ℕ → List Samples → List Given
  selected_from m frames place x = flat_map (λ e. selected_here m frames e.0 e.1) (enumerate_from place x)

  -- how many of the frames before a place are given, in a sound of `frames` frames
  abbrev pub given_before : M → ℕ → ℕ → ℕ
  given_before m frames place = count_by (selects.gives m frames) (range_with_len 0 place)

  -- frames that are given once they are determined, the first of which is that at a place
  abbrev pub made_along : M → ℕ → List Samples → List Given
  made_along m place frames = map (λ e. selects.made m (determined_in m e.0) e.0 e.1) (enumerate_from place frames)

  -- what such effects must satisfy
  pub record AreDetermined : Type 0 where
    -- as many frames later as the reach, it is determined whether a frame is given, and with which samples
    pub gives : (m : M) (frames place : ℕ) → place + selects.reach m < frames → selects.gives m frames place ≡ selects.gives m (determined_in m place) place
    pub made : (m : M) (frames place : ℕ) (frame : Samples) → place + selects.reach m < frames → selects.made m frames place frame ≡ selects.made m (determined_in m place) place frame
    -- the due frames are those that are determined and given
    pub due : (m : M) (taken : ℕ) → selects.due m taken ≡ count_by (λ n. selects.gives m (determined_in m n) n) (range_with_len 0 (taken - selects.reach m))
    -- where some number of frames is enough, none waits, and none is given from there on
    pub enough : (m : M) (maximum : ℕ) → selects.enough m ≡ Some maximum → (selects.reach m ≡ 0) × ((frames place : ℕ) → maximum ≤ place → selects.gives m frames place ≡ false)
    pub whole : (m : M) (x : List Samples) → selects.meaning m x ≡ selected_from m (length x) 0 x

  -- what is still to be given of the frames of the line, the newest of which is the last that was taken, and of these that come
  abbrev pub selected_after : M → ℕ → List Samples → List Samples → List Given
  selected_after m taken items z = selected_from m (taken - length items + length (items ++ z)) (taken - length items) (items ++ z)

  -- of a sound of `frames` frames that ends with those of a line, what was still to be given is a frame or none, and then what is
  -- still to be given where these frames are left in the line
  abbrev pub SelectsFirst : M → ℕ → List Samples → Option Samples → List Samples → Type 0
  SelectsFirst m frames old first new = selected_after m frames old [] ≡ map plain (option_to_list first) ++ selected_after m frames new []

  -- and so many are given before the frames that are left
  abbrev pub CountsFirst : M → ℕ → List Samples → Option Samples → List Samples → Type 0
  CountsFirst m frames old first new = given_before m frames (frames - length old) + length (option_to_list first) ≡ given_before m frames (frames - length new)

  -- the invariant of a stage
  pub record IsSelectedState (s : SelectedState M) : Type 0 where
    -- what holds of each core of a stage that clips no sample
    pub core : IsUnclippedCore (selects.channels s.arguments) s.core
    pub line : IsLine w32 s.line
    pub channels : s.line.channels ≡ selects.channels s.arguments
    pub capacity : s.line.capacity ≡ selects.reach s.arguments
    pub within : s.core.given + length (pending_frames s.core) + length s.line.items ≤ s.core.taken
    pub full : s.core.ended ≡ false → length s.line.items ≡ min s.core.taken s.line.capacity
    pub counted : s.core.ended ≡ false
        → s.core.given + length (pending_frames s.core) ≡ selects.due s.arguments s.core.taken
    pub over : s.core.ended ≡ true → s.core.pending ≡ None → s.line.items ≡ []
    -- after the end, those given and pending are those that are given before the frames of the line
    pub gone : s.core.ended ≡ true → s.core.given + length (pending_frames s.core)
        ≡ given_before s.arguments s.core.taken (s.core.taken - length s.line.items)

  -- the invariant of its counts: frames taken and given, in the line and pending
  pub record IsSelectCount (m : M) (taken given lined pending_count : ℕ) (ended : Bool) : Type 0 where
    pub full : ended ≡ false → lined ≡ min taken (selects.reach m)
    pub counted : ended ≡ false → given + pending_count ≡ selects.due m taken
    pub over : ended ≡ true → pending_count ≡ 0 → lined ≡ 0
    pub gone : ended ≡ true → given + pending_count ≡ given_before m taken (taken - lined)

  -- what it takes and gives, and when each frame is due
  abbrev pub selected_kind : M → StageKind
  selected_kind m = record { inputs = selects.channels m; outputs = selects.channels m; line = selects.reach m; limit = max_taken; due = selects.due m; maximum = λ n. n; enough = selects.enough m }

  -- how such stages behave
  abbrev pub selected_acts : Acts (SelectedState M) M
  selected_acts = record {
    recipe = λ s. s.arguments;
    kind_of = selected_kind;
    meaning = selects.meaning;
    rest = λ s z. map plain (pending_frames s.core)
        ++ selected_after s.arguments s.core.taken s.line.items (coming s.core.ended z);
    counts = λ s. core_counts s.core;
    dry = λ s. is_none s.core.pending;
    stored = λ s. s.line.items ++ pending_frames s.core;
    capacity = λ s. s.line.capacity;
    state_counters = λ s. record { first = length (pending_frames s.core); second = 0; third = 0 };
  }
