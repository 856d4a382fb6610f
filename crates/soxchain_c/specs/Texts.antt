-- Words and files that lie in bytes one after the other, each up to its end (packaging/soxchain.h).
use Rattle.std.specs.Prelude.{◌⊎◌, ℕ, ◌≤◌, List, [], ◌∷◌, length, slice_range, take}
use Rattle.std.specs.Str.{IsUtf8}

-- ends in order from this place on, none after the end of the bytes
abbrev pub AreEnds : List ℕ → ℕ → List ℕ → Type 0
AreEnds bytes start [] = Unit {0}
AreEnds bytes start (end ∷ ends) = (start ≤ end) × (end ≤ length bytes) × AreEnds bytes end ends

-- the pieces between this place and the ends
abbrev pub cut : List ℕ → ℕ → List ℕ → List (List ℕ)
cut bytes start [] = []
cut bytes start (end ∷ ends) = slice_range bytes start end ∷ cut bytes end ends

-- each piece is UTF-8
abbrev pub AreTexts : List (List ℕ) → Type 0
AreTexts [] = Unit {0}
AreTexts (word ∷ words) = IsUtf8 word × AreTexts words

-- this end does not lie before the start of its piece, nor after the end of the bytes
abbrev pub IsEnd : List ℕ → ℕ → ℕ → Type 0
IsEnd bytes start end = (start ≤ end) × (end ≤ length bytes)

-- of the pieces between this place and the ends, the first that is wrong has a bad end
abbrev pub FindsBadEnd : List ℕ → ℕ → List ℕ → Type 0
FindsBadEnd bytes start [] = ⊥
FindsBadEnd bytes start (end ∷ ends) =
    (IsEnd bytes start end → ⊥) ⊎ (IsEnd bytes start end × IsUtf8 (slice_range bytes start end) × FindsBadEnd bytes end ends)

-- the first that is wrong is no text
abbrev pub FindsNoText : List ℕ → ℕ → List ℕ → Type 0
FindsNoText bytes start [] = ⊥
FindsNoText bytes start (end ∷ ends) =
    IsEnd bytes start end × ((IsUtf8 (slice_range bytes start end) → ⊥) ⊎ (IsUtf8 (slice_range bytes start end) × FindsNoText bytes end ends))

-- of the pieces between this place and the ends, the first have right ends: one piece or more
pub record FindsEnds (bytes : List ℕ) (start : ℕ) (ends : List ℕ) : Type 0 where
  pub count : ℕ
  pub some : 1 ≤ count
  pub there : count ≤ length ends
  pub are_ends : AreEnds bytes start (take count ends)

-- of the pieces between this place and the ends, the first have right ends and are texts: one piece or more
pub record FindsTexts (bytes : List ℕ) (start : ℕ) (ends : List ℕ) : Type 0 where
  pub count : ℕ
  pub some : 1 ≤ count
  pub there : count ≤ length ends
  pub are_ends : AreEnds bytes start (take count ends)
  pub are_texts : AreTexts (cut bytes start (take count ends))
