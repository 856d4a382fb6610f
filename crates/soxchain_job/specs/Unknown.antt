-- A disk and an input of whose bytes nothing is known, as those of a system. Their models say what is counted.
use Rattle.std.specs.Prelude.{ℕ, [], None}
use Rattle.soxchain_job.specs.Disk.{DiskModel}
use Rattle.soxchain_job.specs.Input.{InputModel}

-- anything may be found at any time
abbrev pub unknown_disk : {D : Type 0} → (D → ℕ) → DiskModel D
unknown_disk faults = record {
  known = ⊥;
  seen = λ d. record { part = None; new_checkpoint = None; checkpoint = None; out = None };
  may_leave = λ d c. Unit {0};
  moment = λ d. 0;
  left_since = λ d t c. Unit {0};
  began = λ d. 0;
  faults = faults;
}

-- an input of this size, which counts what it delivered and how often it failed, and says when it was confirmed
abbrev pub unknown_input : {I : Type 0} → (I → ℕ) → (I → ℕ) → (I → ℕ) → (I → Type 0) → InputModel I
unknown_input size delivered failures confirmed = record { known = ⊥; content = λ i. []; size = size; delivered = delivered; failures = failures; confirmed = confirmed }
