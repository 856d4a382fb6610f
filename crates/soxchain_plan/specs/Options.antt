-- The word for which a command line is refused as it has no such option (this project's profile).
use Rattle.std.specs.Prelude.{◌≡◌, ◌≢◌, ℕ, ◌+◌, ◌<◌, nat_lt, ◌&&◌, if◌then◌else◌, List, [], ◌++◌, codes, length, slice_index_or, take, Err}
use Rattle.std.specs.Str.{bytes_eq}
use Rattle.fx_plan.specs.declared.line.LineFault.TheVariants.{BadOption}
use Rattle.fx_plan.specs.Line.{line_of_words}

-- The words are refused for an option, and the one at this place is the first for which they are: the words before it are not
-- refused so, and each longer beginning of them is.
pub record IsRefusedAt (words : List (List ℕ)) (place : ℕ) : Type 0 where
  pub there : place < length words
  pub before : line_of_words (take place words) ≢ Err BadOption
  pub longer : (count : ℕ) → place < count → line_of_words (take count words) ≡ Err BadOption

-- the word at a place that the advice names: the value of `-t`, where it has one
abbrev pub named_at : List (List ℕ) → ℕ → List ℕ
named_at words place =
    if bytes_eq (slice_index_or words place []) (codes "-t") && nat_lt (place + 1) (length words)
    then slice_index_or words (place + 1) []
    else slice_index_or words place []

-- the word that is refused
abbrev pub IsRefusedWord : List (List ℕ) → List ℕ → Type 0
IsRefusedWord words word = (place : ℕ) × IsRefusedAt words place × (word ≡ named_at words place)

-- the options that exist, after the word that is refused
abbrev pub options_text : List ℕ
options_text = codes " is refused: the options are --json as the first word, --help and --version alone, -D, -t wav, -t au and, before OUT alone, -b 8, 16, 24 or 32; a file whose name begins with - is ./-NAME"
