-- What a single word asks for (GNU coding standards, "Command-Line Interfaces": --help and --version).
use Rattle.std.specs.Prelude.{ℕ, List, [], ◌∷◌, if◌then◌else◌, Option, Some, None, codes}
use Rattle.std.specs.Str.{bytes_eq}

-- the answer to the words after the program's name, where there is one: only to a single word
abbrev pub answer_of : List ℕ → List ℕ → List (List ℕ) → Option (List ℕ)
answer_of help version [] = None
answer_of help version (word ∷ []) =
    if bytes_eq word (codes "--help") then Some help
    else (if bytes_eq word (codes "--version") then Some version
    else None)
answer_of help version (word ∷ next ∷ more) = None
