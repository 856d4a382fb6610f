-- The words of the command line before the effects (this project's profile of sox(1), SYNOPSIS):
-- `[-D] [-t wav|au] IN|- [-D] [-t wav|au] [-b 8|16|24|32] OUT|- [EFFECT [WORD ..] ..]`.
use Rattle.std.specs.Prelude.{ℕ, Bool, true, false, ◌||◌, if◌then◌else◌, List, [], ◌∷◌, map, take, codes, drop, length, ◌-◌, Option, Some, None, Result, Ok, Err, string_bytes, String}
use Rattle.std.specs.Str.{bytes_eq, str_eq_ignore_ascii_case}
use Rattle.fx_sound.specs.declared.head.Kind.{Kind}
use Rattle.fx_sound.specs.declared.head.Kind.TheVariants.{Wav, Au}
use Rattle.fx_plan.specs.declared.bits.Bits.{Bits}
use Rattle.fx_plan.specs.declared.bits.Bits.TheVariants.{Eight, Sixteen, TwentyFour, ThirtyTwo}
use Rattle.fx_plan.specs.declared.line.LineShape.{LineShape}
use Rattle.fx_plan.specs.declared.line.LineShape.TheVariants as Shapes
use Rattle.fx_plan.specs.declared.line.Options.{Options}
use Rattle.fx_plan.specs.declared.line.CommandWords.{CommandWords}
use Rattle.fx_plan.specs.declared.line.LineFault.{LineFault}
use Rattle.fx_plan.specs.declared.line.LineFault.TheVariants.{MissingFile, BadOption, NoOutputType, BadBits}

-- the kind of a word where an option or a file is expected: `-` alone is a file, another word that begins with it an option
abbrev pub shape_of : List ℕ → LineShape
shape_of word =
    if bytes_eq word (codes "-D") then Shapes.NoDither
    else (if bytes_eq word (codes "-t") then Shapes.Typed
    else (if bytes_eq word (codes "-b") then Shapes.Depth
    else (if bytes_eq word (codes "-") then Shapes.Name
    else (if bytes_eq (take 1 word) (codes "-") then Shapes.Unknown
    else Shapes.Name))))

-- the kind that a value of `-t` is
abbrev pub kind_of_name : List ℕ → Option Kind
kind_of_name word =
    if bytes_eq word (codes "wav") then Some Wav
    else (if bytes_eq word (codes "au") then Some Au
    else None)

-- the bits that a value of `-b` is
abbrev pub bits_of : List ℕ → Option Bits
bits_of word =
    if bytes_eq word (codes "8") then Some Eight
    else (if bytes_eq word (codes "16") then Some Sixteen
    else (if bytes_eq word (codes "24") then Some TwentyFour
    else (if bytes_eq word (codes "32") then Some ThirtyTwo
    else None)))

-- the options before a file, the file, and the words after it
abbrev pub Front : Type 0
Front = Options × List ℕ × List (List ℕ)

-- the options and the file in these words, after options set earlier; the last of a kind is used
abbrev pub front_of : Bool → Options → List (List ℕ) → Result Front LineFault
front_of takes_bits set [] = Err MissingFile
front_of takes_bits set (word ∷ []) =
    elim (shape_of word) [ Shapes.Name ↦ Ok (set, word, []) | Shapes.NoDither ↦ Err MissingFile | Shapes.Typed ↦ Err BadOption | Shapes.Depth ↦ Err BadOption | Shapes.Unknown ↦ Err BadOption ]
front_of takes_bits set (word ∷ value ∷ words) =
    elim (shape_of word) [
      | Shapes.Name ↦ Ok (set, word, value ∷ words)
      | Shapes.NoDither ↦ front_of takes_bits set (value ∷ words)
      | Shapes.Typed ↦ (elim (kind_of_name value) [ None ↦ Err BadOption | Some kind ↦ front_of takes_bits (record set { kind = Some kind }) words ])
      | Shapes.Depth ↦ (if takes_bits then (elim (bits_of value) [ None ↦ Err BadBits | Some bits ↦ front_of takes_bits (record set { bits = Some bits }) words ]) else Err BadOption)
      | Shapes.Unknown ↦ Err BadOption
    ]

-- a list of words as the bytes of each
abbrev pub texts : {Z : Type 0} → List (String Z) → List (List ℕ)
texts = map string_bytes

-- no options
abbrev pub nothing_set : Options
nothing_set = record { kind = None; bits = None }

-- options and a file as bytes
abbrev pub front : {Z : Type 0} → Options → String Z → List (String Z) → Front
front set file rest = (set, string_bytes file, texts rest)

infixl 10 ◌>>=◌
abbrev pub ◌>>=◌ : {A B : Type 0} → Result A LineFault → (A → Result B LineFault) → Result B LineFault
(Ok x) >>= f = f x
(Err e) >>= f = Err e

-- a name ends in these characters, in upper or lower case
abbrev pub ends_in : List ℕ → List ℕ → Bool
ends_in name ending = str_eq_ignore_ascii_case (drop (length name - length ending) name) ending

-- the kind given by the ending of a name
abbrev pub ending_kind : List ℕ → Option Kind
ending_kind name =
    if ends_in name (codes ".wav") then Some Wav
    else (if ends_in name (codes ".au") || ends_in name (codes ".snd") then Some Au
    else None)

-- the first kind that is known
abbrev pub first_known : Option Kind → Option Kind → Option Kind
first_known (Some kind) other = Some kind
first_known None other = other

-- the meaning of the words of a command line, as bytes
pub record Said : Type 0 where
  pub input_kind : Option Kind
  pub input : List ℕ
  pub output_kind : Kind
  pub bits : Option Bits
  pub output : List ℕ
  pub effects : List (List ℕ)

-- the meaning of the words of a command line, or the first fault
abbrev pub line_of_words : List (List ℕ) → Result Said LineFault
line_of_words words = do
  before ← front_of false nothing_set words
  after ← front_of true nothing_set before.2
  elim (first_known after.0.kind (ending_kind after.1)) [
    | None ↦ Err NoOutputType
    | Some kind ↦ Ok (record { input_kind = before.0.kind; input = before.1; output_kind = kind; bits = after.0.bits; output = after.1; effects = after.2 })
  ]

-- the same of words that were read
abbrev pub shown_line : CommandWords → Said
shown_line line = record { input_kind = line.input_kind; input = string_bytes line.input.now; output_kind = line.output_kind; bits = line.bits; output = string_bytes line.output.now; effects = texts line.effects.now }
