-- The word of `dcshift` (sox(1), EFFECTS, dcshift): a shift from -2 to 2; a limiter is not supported.
use Rattle.std.specs.Prelude.{nat_lt, List, [], ◌∷◌, ◌++◌, length, ℤ, pos, Result}
use Rattle.std.specs.Result.{result_unwrap_or}
use Rattle.fx_plan_words.specs.declared.fault.Mark.{Mark}
use Rattle.fx_plan_words.specs.declared.fault.PlanCause.{PlanCause}
use Rattle.fx_plan_words.specs.declared.fault.PlanCause.TheVariants.{WrongCount, NotInProfile}
use Rattle.fx_plan_words.specs.Faults.{Word, mark, when, fault_at}
use Rattle.fx_plan_words.specs.Numbers.{gain_in, is_beyond, unless}

unfoldable pub shift_in : Word → Result ℤ PlanCause
shift_in word = unless (is_beyond 2) (gain_in word)

unfoldable pub shift_faults : List Word → List Mark
shift_faults [] = mark WrongCount 1 ∷ []
shift_faults (shift ∷ more) =
    when (nat_lt 1 (length more)) (mark WrongCount 4)
    ++ (fault_at 2 (shift_in shift)
    ++ when (nat_lt 0 (length more)) (mark NotInProfile 3))

abbrev pub shift_gain : List Word → ℤ
shift_gain [] = pos 0
shift_gain (shift ∷ more) = result_unwrap_or (shift_in shift) (pos 0)
