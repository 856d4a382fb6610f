-- The word of `upsample` and of `downsample` (sox(1), EFFECTS, upsample and downsample): a factor from 1 to 256, by default 2.
use Rattle.std.specs.Prelude.{ℕ, ◌*◌, ◌%◌, ◌^◌, ◌-◌, nat_lt, nat_eq, not, ◌||◌, if◌then◌else◌, List, [], ◌∷◌, ◌++◌, length, Result, Ok, Err}
use Rattle.std.specs.Str.Parse.{digits_value}
use Rattle.std.specs.Result.{result_unwrap_or}
use Rattle.fx_fixed.specs.Decimals.{is_numeral}
use Rattle.fx_plan_words.specs.declared.fault.Mark.{Mark}
use Rattle.fx_plan_words.specs.declared.fault.PlanCause.{PlanCause}
use Rattle.fx_plan_words.specs.declared.fault.PlanCause.TheVariants.{WrongCount, BadArgument, OutOfRange, RateNotDivisible, RateTooLarge}
use Rattle.fx_plan_words.specs.Faults.{Word, mark, when, fault_at}

-- the factor that a word is: digits alone, however many, and from 1 to 256
abbrev pub factor_in : Word → Result ℕ PlanCause
factor_in word =
    if not (is_numeral word) then Err BadArgument
    else (if nat_eq (digits_value 10 word) 0 || nat_lt 256 (digits_value 10 word) then Err OutOfRange
    else Ok (digits_value 10 word))

abbrev pub factor_of : List Word → Result ℕ PlanCause
factor_of [] = Ok 2
factor_of (word ∷ more) = factor_in word

-- the factor, or 1 where there is a fault
abbrev pub usable : Result ℕ PlanCause → ℕ
usable factor = result_unwrap_or factor 1

-- the word that a fault of the factor names: the effect's name where the factor is left out
abbrev pub factor_word : List Word → ℕ
factor_word [] = 1
factor_word (word ∷ more) = 2

abbrev pub word_faults : List Word → List Mark
word_faults words = when (nat_lt 1 (length words)) (mark WrongCount 3) ++ fault_at 2 (factor_of words)

-- a new rate over 2^32 - 1 is refused
unfoldable pub upsample_faults : ℕ → List Word → List Mark
upsample_faults rate words =
    word_faults words
    ++ when (nat_lt (2 ^ 32 - 1) (rate * usable (factor_of words))) (mark RateTooLarge (factor_word words))

-- a rate that is no multiple of the factor is refused
unfoldable pub downsample_faults : ℕ → List Word → List Mark
downsample_faults rate words =
    word_faults words
    ++ when (not (nat_eq (rate % usable (factor_of words)) 0)) (mark RateNotDivisible (factor_word words))
