-- The words of `fir` (sox(1), EFFECTS, fir): the name of a coefficient file, or 2 to 1024 coefficients; standard input is not
-- supported.
use Rattle.std.specs.Prelude.{ℕ, ◌+◌, nat_lt, List, [], ◌∷◌, ◌++◌, codes, length, ℤ, pos, is_none, unwrap_or, Result}
use Rattle.std.specs.Str.{bytes_eq}
use Rattle.std.specs.Result.{result_unwrap_or}
use Rattle.fx_fixed.specs.CoefficientFiles.{coefficients_of}
use Rattle.fx_plan_words.specs.declared.fault.Mark.{Mark}
use Rattle.fx_plan_words.specs.declared.fault.PlanCause.TheVariants.{WrongCount, NotInProfile, BadCoefficients}
use Rattle.fx_plan_words.specs.Faults.{ReadsWords, Word, mark, when, fault_at}
use Rattle.fx_plan_words.specs.declared.fault.WordsRefusal.{WordsRefusal}
use Rattle.fx_plan_words.specs.Numbers.{gain_in}

-- the words that are no coefficients
abbrev pub coefficient_faults : ℕ → List Word → List Mark
coefficient_faults number [] = []
coefficient_faults number (word ∷ words) = fault_at number (gain_in word) ++ coefficient_faults (number + 1) words

-- the coefficients that the words are
abbrev pub gains_of : List Word → List ℤ
gains_of [] = []
gains_of (word ∷ words) = result_unwrap_or (gain_in word) (pos 0) ∷ gains_of words

-- a file that lists no coefficients is refused
abbrev pub file_faults : List ℕ → List Mark
file_faults file = when (is_none (coefficients_of file)) (mark BadCoefficients 2)

abbrev pub in_file : List ℕ → List ℤ
in_file file = unwrap_or (coefficients_of file) []

-- the faults where there are few enough words: `-` alone is standard input, one other word a file's name
abbrev pub faults_max : List ℕ → List Word → List Mark
faults_max file [] = mark NotInProfile 1 ∷ []
faults_max file (word ∷ []) = when (bytes_eq word (codes "-")) (mark NotInProfile 2) ++ file_faults file
faults_max file (word ∷ next ∷ words) = coefficient_faults 2 (word ∷ next ∷ words)

unfoldable pub fir_faults : List ℕ → List Word → List Mark
fir_faults file words = when (nat_lt 1024 (length words)) (mark WrongCount 1026) ++ faults_max file words

abbrev pub coefficients : List ℕ → List Word → List ℤ
coefficients file [] = []
coefficients file (word ∷ []) = in_file file
coefficients file (word ∷ next ∷ words) = gains_of (word ∷ next ∷ words)

-- what reading the words returns: their faults, or the coefficients, of which `view` is the list
abbrev pub ReadsCoefficients : {X : Type 0} → (X → List ℤ) → Result X WordsRefusal → List ℕ → List Word → Type 0
ReadsCoefficients view result file words = ReadsWords view result (fir_faults file words) (coefficients file words)
