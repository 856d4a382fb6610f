-- The words of `delay` (sox(1), EFFECTS, delay): a position for each of the first channels, none of them from the end.
use Rattle.std.specs.Prelude.{ℕ, ◌+◌, nat_lt, nat_eq, List, [], ◌∷◌, ◌++◌, length, Result, Ok, Err}
use Rattle.fx_fixed.specs.declared.positions.Anchor.TheVariants as anchors
use Rattle.fx_fixed.specs.declared.positions.At.{At}
use Rattle.fx_fixed.specs.declared.positions.At.TheVariants.{Start, End}
use Rattle.fx_plan_words.specs.declared.fault.Mark.{Mark}
use Rattle.fx_plan_words.specs.declared.fault.PlanCause.{PlanCause}
use Rattle.fx_plan_words.specs.declared.fault.PlanCause.TheVariants.{WrongCount, NeedsWholeSound, NoSuchChannel}
use Rattle.fx_plan_words.specs.Faults.{Word, mark, when}
use Rattle.fx_plan_words.specs.Numbers.{position_in}

-- the frames of a position from the start
abbrev pub from_start : Result At PlanCause → Result ℕ PlanCause
from_start (Ok (Start frames)) = Ok frames
from_start (Ok (End frames)) = Err NeedsWholeSound
from_start (Err cause) = Err cause

-- the delay that a word is, after one of `previous` frames
abbrev pub delay_word_at : ℕ → ℕ → Word → Result ℕ PlanCause
delay_word_at rate previous word = from_start (position_in rate anchors.Start (Start previous) word)

-- the words that are no delays
abbrev pub each_faults : ℕ → ℕ → ℕ → List Word → List Mark
each_faults rate number previous [] = []
each_faults rate number previous (word ∷ words) = elim (delay_word_at rate previous word) [
  | Err cause ↦ mark cause number ∷ each_faults rate (number + 1) previous words
  | Ok delay ↦ each_faults rate (number + 1) delay words
]

-- the delays that the words are
abbrev pub delays : ℕ → ℕ → List Word → List ℕ
delays rate previous [] = []
delays rate previous (word ∷ words) = elim (delay_word_at rate previous word) [
  | Err cause ↦ delays rate previous words
  | Ok delay ↦ delay ∷ delays rate delay words
]

unfoldable pub delay_faults : ℕ → ℕ → List Word → List Mark
delay_faults rate channels words =
    when (nat_eq (length words) 0) (mark WrongCount 1)
    ++ (when (nat_lt channels (length words)) (mark NoSuchChannel (channels + 2))
    ++ each_faults rate 2 0 words)
