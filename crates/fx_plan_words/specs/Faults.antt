-- Faults as a list, in the order in which they are to be found (this project's profile).
use Rattle.std.specs.Prelude.{ℕ, ◌≡◌, Bool, true, false, List, [], ◌∷◌, map, Option, Some, None, Result, Ok, Err, String, string_bytes}
use Rattle.fx_plan_words.specs.declared.fault.PlanCause.{PlanCause}
use Rattle.fx_plan_words.specs.declared.fault.Mark.{Mark}
use Rattle.fx_plan_words.specs.declared.fault.WordsRefusal.{WordsRefusal}
use Rattle.fx_plan_words.specs.declared.fault.WordsRefusal.TheVariants as refusals

-- a word by its bytes
abbrev pub Word : Type 0
Word = List ℕ

abbrev pub word_texts : {Z : Type 0} → List (String Z) → List Word
word_texts words = map string_bytes words

abbrev pub mark : PlanCause → ℕ → Mark
mark cause word = record { cause = cause; word = word }

-- x where the test holds, else nothing
abbrev pub when : {A : Type 0} → Bool → A → List A
when true x = x ∷ []
when false x = []

-- the fault of what was read from the word of this number
abbrev pub fault_at : {A : Type 0} → ℕ → Result A PlanCause → List Mark
fault_at word (Ok x) = []
fault_at word (Err cause) = mark cause word ∷ []

abbrev pub first_of : {A : Type 0} → List A → Option A
first_of [] = None
first_of (x ∷ xs) = Some x

-- what a call that allocates no memory returns for words with these faults: the first of them, or this value where there
-- is none
abbrev pub Finds : {X : Type 0} → Result X Mark → List Mark → X → Type 0
Finds (Ok x) faults value = (faults ≡ []) × (x ≡ value)
Finds (Err m) faults value = first_of faults ≡ Some m

-- a refusal by a call that allocates memory, of words with these faults: the first of them, or lack of memory
abbrev pub RefusesWords : WordsRefusal → List Mark → Type 0
RefusesWords refusals.Memory faults = Unit {0}
RefusesWords (refusals.Marked m) faults = first_of faults ≡ Some m

-- what a call that allocates memory returns for words with these faults: this value where there is none
abbrev pub ReadsWords : {X Y : Type 0} → (X → Y) → Result X WordsRefusal → List Mark → Y → Type 0
ReadsWords view (Ok x) faults value = (faults ≡ []) × (view x ≡ value)
ReadsWords view (Err e) faults value = RefusesWords e faults
