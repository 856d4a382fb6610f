-- What was read of a coefficient file's words.
use Rattle.std.specs.Prelude.{ℕ, ◌≡◌, ◌||◌, Bool, true, false, ⊤, List, [], ◌∷◌}
use Rattle.fx_fixed.specs.CoefficientFiles.{is_hash, is_white}

-- what ends a word
abbrev pub is_break : ℕ → Bool
is_break c = is_white c || is_hash c

-- a text is empty, or begins with what ends a word
abbrev pub BeginsBreak : List ℕ → Type 0
BeginsBreak [] = ⊤
BeginsBreak (c ∷ cs) = is_break c ≡ true

-- a text is empty, or begins with a word
abbrev pub BeginsWord : List ℕ → Type 0
BeginsWord [] = ⊤
BeginsWord (c ∷ cs) = is_break c ≡ false
