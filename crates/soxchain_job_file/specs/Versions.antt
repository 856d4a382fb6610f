-- What shows of which form and version a file is.
use Rattle.std.specs.Prelude.{◌≡◌, ◌≢◌, ℕ, ◌<◌, ◌^◌, List, [], ◌∷◌, ◌++◌, length, drop, codes, ◌⊎◌}
use Rattle.std.specs.Io.{StartsWith}
use Rattle.std.specs.Str.Parse.{IsNumeral, digits_value, without_leading_plus}

-- what the version follows: in a line of text, and in format 1, which was JSON
abbrev pub text_start : List ℕ
text_start = codes "soxchain-job "

abbrev pub json_start : List ℕ
json_start = 0x7B ∷ 0x22 ∷ [] ++ codes "soxchain-job" ++ 0x22 ∷ 0x3A ∷ []

-- the number that these decimal digits say, perhaps after a plus sign
abbrev pub IsNumeralOf : List ℕ → ℕ → Type 0
IsNumeralOf digits number = IsNumeral 10 (without_leading_plus digits) × (digits_value 10 (without_leading_plus digits) ≡ number)

-- the bytes begin with such digits and this byte
abbrev pub BeginsWithNumeral : ℕ → List ℕ → ℕ → Type 0
BeginsWithNumeral end bytes number = (digits : List ℕ) × StartsWith bytes (digits ++ end ∷ []) × IsNumeralOf digits number

-- they do after this start
abbrev pub Declares : List ℕ → ℕ → List ℕ → ℕ → Type 0
Declares start end bytes number = StartsWith bytes start × BeginsWithNumeral end (drop (length start) bytes) number

-- the bytes are of this other version: a line of text names another one than 2, or they are JSON
abbrev pub IsOtherVersion : List ℕ → ℕ → Type 0
IsOtherVersion bytes version =
    (version < 2 ^ 64) × ((Declares text_start 10 bytes version × (version ≢ 2)) ⊎ Declares json_start 44 bytes version)

-- the bytes are of no version
abbrev pub IsForeign : List ℕ → Type 0
IsForeign bytes = ¬ (StartsWith bytes text_start) × ¬ (StartsWith bytes json_start)

-- one of the two begins with the other
abbrev pub BeginAlike : List ℕ → List ℕ → Type 0
BeginAlike xs ys = StartsWith xs ys ⊎ StartsWith ys xs
