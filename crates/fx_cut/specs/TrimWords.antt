-- The words of `trim` (sox(1), EFFECTS, trim): 1 to 64 positions, of which none lies before its neighbour of the same anchor.
use Rattle.std.specs.Prelude.{ℕ, ◌+◌, nat_lt, nat_eq, Bool, false, List, [], ◌∷◌, ◌++◌, length, Ok, Err}
use Rattle.fx_fixed.specs.declared.positions.Anchor.TheVariants as anchors
use Rattle.fx_fixed.specs.declared.positions.At.{At}
use Rattle.fx_fixed.specs.declared.positions.At.TheVariants.{Start, End}
use Rattle.fx_plan_words.specs.declared.fault.Mark.{Mark}
use Rattle.fx_plan_words.specs.declared.fault.PlanCause.TheVariants.{WrongCount, PositionBehind}
use Rattle.fx_plan_words.specs.Faults.{Word, mark, when}
use Rattle.fx_plan_words.specs.Numbers.{position_in, beginning}

-- the words that are no positions, each by its number
abbrev pub place_faults : ℕ → ℕ → At → List Word → List Mark
place_faults rate number previous [] = []
place_faults rate number previous (word ∷ words) = elim (position_in rate anchors.Previous previous word) [
  | Err cause ↦ mark cause number ∷ place_faults rate (number + 1) previous words
  | Ok position ↦ place_faults rate (number + 1) position words
]

-- the positions that the words are
abbrev pub places : ℕ → At → List Word → List At
places rate previous [] = []
places rate previous (word ∷ words) = elim (position_in rate anchors.Previous previous word) [
  | Err cause ↦ places rate previous words
  | Ok position ↦ position ∷ places rate position words
]

-- a position lies before the previous one, both of one anchor
abbrev pub is_passed : At → At → Bool
is_passed (Start first) (Start second) = nat_lt second first
is_passed (End first) (End second) = nat_lt first second
is_passed first second = false

-- the positions that lie before the previous one; the fault names the word of the later one
abbrev pub order_faults : ℕ → List At → List Mark
order_faults number [] = []
order_faults number (p ∷ []) = []
order_faults number (p ∷ q ∷ ps) = when (is_passed p q) (mark PositionBehind number) ++ order_faults (number + 1) (q ∷ ps)

unfoldable pub trim_faults : ℕ → List Word → List Mark
trim_faults rate words =
    when (nat_eq (length words) 0) (mark WrongCount 1)
    ++ (when (nat_lt 64 (length words)) (mark WrongCount 66)
    ++ (place_faults rate 2 beginning words
    ++ order_faults 3 (places rate beginning words)))
