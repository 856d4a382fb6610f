-- How readers and writers of bytes are specified.
use Rattle.std.specs.Prelude.{◌≡◌, ℕ, ◌+◌, ◌-◌, ◌^◌, min, Bool, ◌&&◌, ◌==◌, List, Option, Result, Ok, Err, MatchResult}

-- a reader: the bytes still to be read, where they are known; how many were read; how many calls failed
pub record ByteReader (R : Type 0) : Type 0 where
  pub rest : R → Option (List ℕ)
  pub delivered : R → ℕ
  pub failures : R → ℕ

-- a writer: the bytes that were taken, where they are known; whether all of them were flushed; how many calls failed
pub record ByteWriter (W : Type 0) : Type 0 where
  pub taken : W → Option (List ℕ)
  pub flushed : W → Bool
  pub failures : W → ℕ

-- A writer that can go back to its first byte: the place of its next byte, counted from 0, where it is known; whether one call
-- took it back, from the old state to the new one; whether one call failed to do so, and left the new one.
pub record Rewinds (W : Type 0) : Type 1 where
  pub place : W → Option ℕ
  pub back : W → W → Type 0
  pub stuck : W → W → Type 0

-- a count that saturates at the maximum u64
abbrev pub saturated : ℕ → ℕ
saturated n = min n (2 ^ 64 - 1)

-- the count of failed calls rises with an `Err`, and not otherwise
abbrev pub CountsFailure : {X E : Type 0} → ℕ → ℕ → Result X E → Type 0
CountsFailure old new result = MatchResult result (λ _. new ≡ old) (λ _. new ≡ saturated (old + 1))

-- the count of bytes rises by what an `Ok` moved, and not otherwise
abbrev pub CountsBytes : {E : Type 0} → ℕ → ℕ → Result ℕ E → Type 0
CountsBytes old new result = MatchResult result (λ n. new ≡ saturated (old + n)) (λ _. new ≡ old)

-- after a write all bytes taken are flushed only where they were before and it took none
abbrev pub flushed_after : {E : Type 0} → Bool → Result ℕ E → Bool
flushed_after old (Ok n) = old && n == 0
flushed_after old (Err e) = old
