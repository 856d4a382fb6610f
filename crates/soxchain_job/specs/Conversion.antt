-- What a conversion writes.
use Rattle.std.specs.Prelude.{◌≡◌, ℕ, List, ◌++◌}

-- a conversion
pub record ConversionModel (C : Type 0) : Type 1 where
  -- all that it has still to write where these bytes are the rest of the input
  pub remaining : C → List ℕ → List ℕ
  -- the bytes that it may be frozen to
  pub frozen_as : C → List ℕ → Type 0
  -- what it was made from
  pub Plan : Type 0
  pub plan : C → Plan
  -- what may be recorded of it at its end
  pub summarised : C → List ℕ → Type 0

-- It took a piece and appended something to the output: this, and then what it has still to write, is what it had to write.
pub record ConvertsPiece {C : Type 0} (remaining : C → List ℕ → List ℕ) (old new : C) (piece before after : List ℕ) : Type 0 where
  pub written : List ℕ
  pub appended : after ≡ before ++ written
  pub rest : (input : List ℕ) → remaining old (piece ++ input) ≡ written ++ remaining new input

-- Bytes to which a conversion may be frozen were appended.
pub record AppendsFrozen {C : Type 0} (frozen_as : C → List ℕ → Type 0) (c : C) (before after : List ℕ) : Type 0 where
  pub frozen : List ℕ
  pub freezes : frozen_as c frozen
  pub appended : after ≡ before ++ frozen
