-- A checkpoint as bytes.
use Rattle.std.specs.Prelude.{ℕ, ◌<◌, ◌≤◌, ◌+◌, ◌^◌, List, ◌∷◌, ◌++◌, ◌≡◌, Option, Some, None}
use Rattle.std.specs.Int.{to_le_bytes, w64}
use Rattle.soxchain_job.specs.declared.checkpoint.Checkpoint.{Checkpoint}
use Rattle.soxchain_job.specs.declared.checkpoint.Checkpoint.TheVariants.{InProgress, Complete}
use Rattle.soxchain_job.specs.declared.grow.Offsets.{Offsets}

-- so many bytes of the input were taken, so many of the output written, and the conversion is frozen to these bytes
abbrev pub in_progress_bytes : ℕ → ℕ → List ℕ → List ℕ
in_progress_bytes taken written frozen = 0 ∷ to_le_bytes w64 taken ++ to_le_bytes w64 written ++ frozen

-- the output is complete, and this is recorded of it
abbrev pub complete_bytes : List ℕ → List ℕ
complete_bytes summary = 1 ∷ summary

-- a checkpoint in progress of a conversion: it is frozen to what follows both counts
pub record IsCheckpointOf {C : Type 0} (frozen_as : C → List ℕ → Type 0) (c : C) (taken written : ℕ) (bytes : List ℕ) : Type 0 where
  pub frozen : List ℕ
  pub freezes : frozen_as c frozen
  pub bytes_are : bytes ≡ in_progress_bytes taken written frozen

-- what was read is this checkpoint
abbrev pub IsInProgress : ℕ → ℕ → List ℕ → Option Checkpoint → Type 0
IsInProgress taken written frozen None = ⊥
IsInProgress taken written frozen (Some (Complete summary)) = ⊥
IsInProgress taken written frozen (Some (InProgress p)) = (p.taken ≡ taken) × (p.written ≡ written) × (p.frozen.now ≡ frozen)

abbrev pub IsComplete : List ℕ → Option Checkpoint → Type 0
IsComplete summary None = ⊥
IsComplete summary (Some (Complete s)) = s.now ≡ summary
IsComplete summary (Some (InProgress p)) = ⊥

-- bytes from which a checkpoint was read are those of just this one
abbrev pub IsReadFrom : List ℕ → Option Checkpoint → Type 0
IsReadFrom bytes None = Unit {0}
IsReadFrom bytes (Some (Complete summary)) = bytes ≡ complete_bytes summary.now
IsReadFrom bytes (Some (InProgress p)) = bytes ≡ in_progress_bytes p.taken p.written p.frozen.now

-- a run has so many bytes of the input taken, and of the output written
abbrev pub IsAt : ℕ → ℕ → Option Offsets → Type 0
IsAt taken written None = ⊥
IsAt taken written (Some offsets) = (offsets.taken ≡ taken) × (offsets.written ≡ written)

-- where the checkpoint is in progress, the run continues from there
abbrev pub Continues : Option (List ℕ) → Option Offsets → Type 0
Continues checkpoint offsets = (taken written : ℕ) (frozen : List ℕ) → taken < 2 ^ 64 → written < 2 ^ 64
    → checkpoint ≡ Some (in_progress_bytes taken written frozen) → IsAt taken written offsets

-- where the checkpoint is in progress, no more bytes of the input are delivered than follow those that it counts
abbrev pub ReadsRest : Option (List ℕ) → ℕ → ℕ → ℕ → Type 0
ReadsRest checkpoint size old new = (taken written : ℕ) (frozen : List ℕ) → taken < 2 ^ 64 → written < 2 ^ 64
    → checkpoint ≡ Some (in_progress_bytes taken written frozen) → new + taken ≤ old + size
