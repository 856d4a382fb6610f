-- The words of `pad` (sox(1), EFFECTS, pad): 1 to 64 lengths, each with its position after an `@`; the first and the last may
-- go without.
use Rattle.std.specs.Prelude.{ℕ, ◌+◌, ◌^◌, ◌==◌, ◌&&◌, nat_le, nat_lt, nat_eq, Bool, true, if◌then◌else◌, List, [], ◌∷◌, ◌++◌, length, map, sum_by, Result, Ok, Err}
use Rattle.std.specs.List.{before_first, after_first, position_or_len}
use Rattle.fx_cut.specs.PadExtents.{pad_length}
use Rattle.fx_fixed.specs.declared.positions.Anchor.TheVariants as anchors
use Rattle.fx_fixed.specs.declared.positions.At.{At}
use Rattle.fx_fixed.specs.declared.positions.At.TheVariants.{Start, End}
use Rattle.fx_plan_words.specs.declared.fault.Mark.{Mark}
use Rattle.fx_plan_words.specs.declared.fault.PlanCause.{PlanCause}
use Rattle.fx_plan_words.specs.declared.fault.PlanCause.TheVariants.{WrongCount, BadArgument}
use Rattle.fx_plan_words.specs.Faults.{Word, mark, when}
use Rattle.fx_plan_words.specs.Numbers.{frames_in, position_in, beginning}
use Rattle.fx_cut.specs.TrimWords.{order_faults}

-- a length and where it goes
abbrev pub Length : Type 0
Length = ℕ × At

abbrev pub position_at : Length → At
position_at pad = pad.1

-- the positions from the start that stand before the first one from the end are in order, from a place on
abbrev pub are_rising : ℕ → List At → Bool
are_rising minimum [] = true
are_rising minimum (Start p ∷ ps) = nat_le minimum p && are_rising p ps
are_rising minimum (End b ∷ ps) = true

-- lengths that can be put in: in order, and together at most those of 64 pads of 2^40 frames
abbrev pub are_pads : List Length → Bool
are_pads pads = are_rising 0 (map position_at pads) && nat_le (sum_by pad_length pads) (2 ^ 46)

-- an `@`, and whether a word has one
abbrev pub is_at : ℕ → Bool
is_at c = c == 64

abbrev pub has_at : Word → Bool
has_at word = nat_lt (position_or_len is_at word) (length word)

-- a length that goes to this position, and a length that goes where a text says
abbrev pub placed_words : At → Result ℕ PlanCause → Result Length PlanCause
placed_words at (Ok frames) = Ok (frames, at)
placed_words at (Err cause) = Err cause

abbrev pub with_length : Result ℕ PlanCause → Result At PlanCause → Result Length PlanCause
with_length (Ok frames) (Ok at) = Ok (frames, at)
with_length (Ok frames) (Err cause) = Err cause
with_length (Err cause) at = Err cause

-- the length and the position that a word is, after this position; without an `@` the first word's length is at the
-- start and the last one's at the end
abbrev pub pad_in : ℕ → At → Bool → Bool → Word → Result Length PlanCause
pad_in rate previous is_first is_last word =
    if has_at word
    then with_length (frames_in rate (before_first is_at word)) (position_in rate anchors.Start previous (after_first is_at word))
    else (if is_first then placed_words (Start 0) (frames_in rate word)
    else (if is_last then placed_words (End 0) (frames_in rate word)
    else Err BadArgument))

-- the word with this number, with more words after it; the first has the number 2
abbrev pub numbered_pads : ℕ → ℕ → At → Word → List Word → Result Length PlanCause
numbered_pads rate number previous word words = pad_in rate previous (nat_eq number 2) (nat_eq (length words) 0) word

-- the words that are no lengths
abbrev pub length_faults : ℕ → ℕ → At → List Word → List Mark
length_faults rate number previous [] = []
length_faults rate number previous (word ∷ words) = elim (numbered_pads rate number previous word words) [
  | Err cause ↦ mark cause number ∷ length_faults rate (number + 1) previous words
  | Ok pad ↦ length_faults rate (number + 1) pad.1 words
]

-- the lengths that the words are
abbrev pub word_lengths : ℕ → ℕ → At → List Word → List Length
word_lengths rate number previous [] = []
word_lengths rate number previous (word ∷ words) = elim (numbered_pads rate number previous word words) [
  | Err cause ↦ word_lengths rate (number + 1) previous words
  | Ok pad ↦ pad ∷ word_lengths rate (number + 1) pad.1 words
]

unfoldable pub pad_faults : ℕ → List Word → List Mark
pad_faults rate words =
    when (nat_eq (length words) 0) (mark WrongCount 1)
    ++ (when (nat_lt 64 (length words)) (mark WrongCount 66)
    ++ (length_faults rate 2 beginning words
    ++ order_faults 3 (map position_at (word_lengths rate 2 beginning words))))
