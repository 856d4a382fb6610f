-- What was written to a message writer.
use Rattle.std.specs.Prelude.{◌≡◌, ℕ, ◌+◌, ◌≤◌, Bool, true, false, List, ◌++◌, length, take, Option}
use Rattle.std.specs.Io.KnownBytes.{Appends}
use Rattle.fx_frame_base.specs.Io.{ByteWriter, saturated}

-- one call failed, and the writer has a prefix of these bytes
pub record ReportedFront (first now : Option (List ℕ)) (failures new_failures : ℕ) (all : List ℕ) : Type 0 where
  pub count : ℕ
  pub part : count ≤ length all
  pub took : Appends first now (take count all)
  pub failed : new_failures ≡ saturated (failures + 1)

-- the same from one state of a writer to the next
abbrev pub ReportsFront : {W : Type 0} → ByteWriter W → W → W → List ℕ → Type 0
ReportsFront writes old new = ReportedFront (writes.taken old) (writes.taken new) (writes.failures old) (writes.failures new)

-- the writer has all of these bytes, and no call failed
pub record ReportedAll (first now : Option (List ℕ)) (failures new_failures : ℕ) (all : List ℕ) : Type 0 where
  pub took : Appends first now all
  pub unfailed : new_failures ≡ failures

-- all was written, or a prefix of it where the writer failed
abbrev pub Delivered : Bool → Option (List ℕ) → Option (List ℕ) → ℕ → ℕ → List ℕ → Type 0
Delivered false = ReportedAll
Delivered true = ReportedFront

-- a text is appended to what is to be written
abbrev pub TellsMore : {M : Type 0} → ByteWriter M → Bool → Bool → M → M → List ℕ → Type 0
TellsMore writes had_failed has_failed old new text = (first : Option (List ℕ)) (count : ℕ) (all : List ℕ) → Delivered had_failed first (writes.taken old) count (writes.failures old) all → Delivered has_failed first (writes.taken new) count (writes.failures new) (all ++ text)

-- these bytes were written, or a prefix of them where the writer failed, which is then counted
pub record TellsBytes (first now : Option (List ℕ)) (failures new_failures : ℕ) (all : List ℕ) : Type 0 where
  pub has_failed : Bool
  pub delivered : Delivered has_failed first now failures new_failures all

-- the same, from one state of a writer to the next
abbrev pub WritesMessage : {M : Type 0} → ByteWriter M → M → M → List ℕ → Type 0
WritesMessage writes old new = TellsBytes (writes.taken old) (writes.taken new) (writes.failures old) (writes.failures new)
