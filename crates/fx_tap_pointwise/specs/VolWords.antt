-- The words of `vol` (sox(1), EFFECTS, vol): a gain, and optionally `amplitude`; other types and a limiter are not supported.
use Rattle.std.specs.Prelude.{eqb, nat_lt, not, ◌||◌, Bool, List, [], ◌∷◌, ◌++◌, codes, length, ℤ, pos}
use Rattle.std.specs.Str.{bytes_eq}
use Rattle.std.specs.List.{ends_with}
use Rattle.std.specs.Result.{result_unwrap_or}
use Rattle.fx_plan_words.specs.declared.fault.Mark.{Mark}
use Rattle.fx_plan_words.specs.declared.fault.PlanCause.TheVariants.{WrongCount, NotInProfile, BadArgument}
use Rattle.fx_plan_words.specs.Faults.{Word, mark, when, fault_at}
use Rattle.fx_plan_words.specs.Numbers.{gain_in}

-- a gain that ends with a type that is not supported
unfoldable pub has_unsupported_suffix : Word → Bool
has_unsupported_suffix word = ends_with eqb word (codes "dB") || ends_with eqb word (codes "power")

-- the faults of the words after the gain
unfoldable pub type_faults : List Word → List Mark
type_faults [] = []
type_faults (type ∷ more) =
    when (bytes_eq type (codes "power") || bytes_eq type (codes "dB")) (mark NotInProfile 3)
    ++ (when (not (bytes_eq type (codes "amplitude"))) (mark BadArgument 3)
    ++ when (nat_lt 0 (length more)) (mark NotInProfile 4))

unfoldable pub vol_faults : List Word → List Mark
vol_faults [] = mark WrongCount 1 ∷ []
vol_faults (gain ∷ more) =
    when (nat_lt 2 (length more)) (mark WrongCount 5)
    ++ (when (has_unsupported_suffix gain) (mark NotInProfile 2)
    ++ (fault_at 2 (gain_in gain)
    ++ type_faults more))

abbrev pub vol_gain : List Word → ℤ
vol_gain [] = pos 0
vol_gain (gain ∷ more) = result_unwrap_or (gain_in gain) (pos 0)
