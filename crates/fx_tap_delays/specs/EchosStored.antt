-- What an `echos` stores, restored (this project's profile).
use Rattle.std.specs.Prelude.{ℕ, ℤ, ◌+◌, ◌*◌, ◌<◌, ◌≤◌, ◌≡◌, ◌⊎◌, ◌++◌, List, Option, length, option_to_list, unsigned_abs}
use Rattle.std.specs.List.{All}
use Rattle.fx_frame_base.specs.declared.stage.ThawFault.{ThawFault}
use Rattle.fx_frame_base.specs.declared.stage.ThawFault.TheVariants.{Memory, BadSnapshot}
use Rattle.fx_frame_base.specs.Frame.{Samples}
use Rattle.fx_frame_base.specs.PendingFrame.{IsPending}
use Rattle.fx_frame_line.specs.Line.{Frames}
use Rattle.fx_frame.specs.Numbers.{AreCoreNumbers}
use Rattle.fx_frame.specs.declared.numbers.TailNumbers.{TailNumbers}
use Rattle.fx_tap_delays.specs.DelayExtents.{Tap}
use Rattle.fx_tap_delays.specs.EchosState.{IsEchoLine, delay_at, frames_of_lines, line_at}

-- no sample of a frame is greater in magnitude
abbrev pub IsSmall : ℕ → Samples → Type 0
IsSmall maximum frame = All (λ x. unsigned_abs x ≤ maximum) frame

-- the lines of these taps after `came` frames came
pub record IsSeries (channels came : ℕ) (taps : List Tap) (lines : List (Frames ℤ)) : Type 0 where
  pub as_many : length lines ≡ length taps
  pub lines_are : (j : ℕ) → j < length lines → IsEchoLine channels came j (delay_at taps j) (line_at lines j)

-- a stage with such lines and `pending_count` pending frames stores these frames
pub record IsSeriesStored (channels came : ℕ) (taps : List Tap) (pending_count : ℕ) (frames : List Samples) (lines : List (Frames ℤ)) (pending : Option Samples) : Type 0 where
  pub series : IsSeries channels came taps lines
  pub held : IsPending channels pending
  pub pending_count_is : length (option_to_list pending) ≡ pending_count
  pub stored : frames ≡ frames_of_lines lines ++ option_to_list pending

-- a fact of each series of lines that stores these frames
abbrev pub ForAllSeries : ℕ → ℕ → List Tap → List Samples → (List (Frames ℤ) → Type 0) → Type 0
ForAllSeries channels came taps frames P = (lines : List (Frames ℤ)) → IsSeries channels came taps lines → frames_of_lines lines ≡ frames → P lines

-- a fact of all such lines and pending frames that store these frames
abbrev pub ForAllStored : ℕ → ℕ → List Tap → ℕ → List Samples → (List (Frames ℤ) → Option Samples → Type 0) → Type 0
ForAllStored channels came taps pending_count frames P =
    (lines : List (Frames ℤ)) (pending : Option Samples) → IsSeriesStored channels came taps pending_count frames lines pending → P lines pending

-- memory was refused, or the snapshot is bad and this holds
abbrev pub MemoryOrBad : ThawFault → Type 0 → Type 0
MemoryOrBad fault P = (fault ≡ Memory) ⊎ ((fault ≡ BadSnapshot) × P)

-- the invariant of the counts of a stage whose delays have the sum `whole`, with `stored` stored frames
pub record AreEchosCounts (whole stored : ℕ) (n : TailNumbers) : Type 0 where
  pub core : AreCoreNumbers 16 n.core
  pub all : n.stored ≡ stored
  pub pending_count_held : n.core.pending_count ≤ n.stored
  pub not_ended : n.core.ended ≡ 0 → n.tail ≡ 0
  pub counted : n.core.given + n.core.pending_count + n.tail ≡ n.core.taken + n.core.ended * whole
