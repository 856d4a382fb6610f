-- Messages in memory (this project's profile).
use Rattle.std.specs.Prelude.{◌≡◌, ◌⊎◌, ℕ, ◌≤◌, Bool, List, length, take}

-- a writer into memory: the bytes that it took, whether they were flushed, and how often memory for more was refused
pub record Memory : Type 0 where
  pub bytes : List ℕ
  pub flushed : Bool
  pub failures : ℕ

-- A prefix of a text was written, at least 4,096 bytes of it.
pub record ReportedInPart (messages text : List ℕ) : Type 0 where
  pub count : ℕ
  pub at_least : 4096 ≤ count
  pub part : count ≤ length text
  pub delivered : messages ≡ take count text

-- These bytes were written as messages: all of the text, or a prefix of a long one where memory for more is refused.
abbrev pub ReportedBytes : List ℕ → List ℕ → Type 0
ReportedBytes messages text = (messages ≡ text) ⊎ ReportedInPart messages text
