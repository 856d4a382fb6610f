-- The pending frame of a stage. Source: this project's profile.
use Rattle.std.specs.Prelude.{ℕ, List, Option, Some, length, option_to_list, ◌≡◌}
use Rattle.fx_frame_base.specs.Frame.{Samples, IsFrame}

-- a pending frame, if there is one, has `channels` channels
abbrev pub IsPending : ℕ → Option Samples → Type 0
IsPending channels pending = (x : Samples) → pending ≡ Some x → IsFrame x × (length x ≡ channels)

-- these frames are those of a stage that stores a pending frame, or none, and no others
abbrev pub StoresPending : ℕ → List Samples → Option Samples → Type 0
StoresPending channels frames pending = (frames ≡ option_to_list pending) × IsPending channels pending

-- they are those of no such stage
abbrev pub StoresNoPending : ℕ → List Samples → Type 0
StoresNoPending channels frames = (pending : Option Samples) → frames ≡ option_to_list pending → IsPending channels pending → ⊥
