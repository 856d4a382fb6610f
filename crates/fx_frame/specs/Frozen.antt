-- What a stage stores and counts, restored. Source: this project's profile.
use Rattle.std.specs.Prelude.{ℕ, ℤ, List, ◌++◌, ◌⊎◌, Option, length, option_to_list, ◌≡◌}
use Rattle.std.specs.Int.{w32}
use Rattle.fx_frame_base.specs.declared.stage.ThawFault.{ThawFault}
use Rattle.fx_frame_base.specs.declared.stage.ThawFault.TheVariants.{BadSnapshot, Memory}
use Rattle.fx_frame_base.specs.Frame.{Samples}
use Rattle.fx_frame_base.specs.PendingFrame.{IsPending}
use Rattle.fx_frame_line.specs.Line.{Frames, IsLine}

-- the line of `channels` channels and `capacity` places that holds these frames
abbrev pub line_of : ℕ → ℕ → List Samples → Frames ℤ
line_of channels capacity frames = record { items = frames; capacity = capacity; channels = channels }

-- a stage with such a line and `pending_count` pending frames stores these frames
pub record IsStored (channels capacity pending_count : ℕ) (frames : List Samples) (line : Frames ℤ) (pending : Option Samples) : Type 0 where
  pub lined : IsLine w32 line
  pub channels_are : line.channels ≡ channels
  pub capacity_is : line.capacity ≡ capacity
  pub held : IsPending channels pending
  pub pending_count_is : length (option_to_list pending) ≡ pending_count
  pub stored : frames ≡ line.items ++ option_to_list pending

-- a refusal: want of memory, or a bad snapshot, and that only where the fact does not hold
abbrev pub RefusesUnless : Type 0 → ThawFault → Type 0
RefusesUnless P e = (e ≡ Memory) ⊎ ((e ≡ BadSnapshot) × (P → ⊥))

module _ (channels capacity pending_count : ℕ) (frames : List Samples) where
  -- no other line and pending frame are stored so
  abbrev pub IsOnlyStored : Frames ℤ × Option Samples → Type 0
  IsOnlyStored found = (line : Frames ℤ) (pending : Option Samples) → IsStored channels capacity pending_count frames line pending → (found.0 ≡ line) × (found.1 ≡ pending)

  -- a refusal where no line and pending frame are stored so, or for want of memory
  abbrev pub RefusesNotStored : ThawFault → Type 0
  RefusesNotStored e = (e ≡ Memory) ⊎ ((e ≡ BadSnapshot) × ((line : Frames ℤ) (pending : Option Samples) → IsStored channels capacity pending_count frames line pending → ⊥))
