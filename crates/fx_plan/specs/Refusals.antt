-- How a name is refused, and the names of sox(1), EFFECTS, that can begin only once all of the sound is there.
use Rattle.std.specs.Prelude.{Bool, List, [], ◌∷◌, codes, Option, Some, None}
use Rattle.std.specs.Str.{bytes_eq}
use Rattle.std.specs.List.{list_any}
use Rattle.fx_plan_words.specs.declared.fault.Mark.{Mark}
use Rattle.fx_plan_words.specs.declared.fault.PlanCause.{PlanCause}
use Rattle.fx_plan_words.specs.Faults.{Word, mark}
use Rattle.fx_plan_effects.specs.Effects.{Act}

-- effects that can begin only when the whole sound is known
unfoldable pub whole_sound : List Word
whole_sound =
    codes "reverse" ∷ codes "norm" ∷ codes "repeat" ∷ []

abbrev pub is_one_of : List Word → Word → Bool
is_one_of names word = list_any (bytes_eq word) names

-- what the words of an effect say: their faults, and what the effect does where there is none; a refused name is the first fault
abbrev pub says : List Mark → Act → List Mark × Option Act
says faults act = (faults, Some act)

abbrev pub refused : PlanCause → List Mark × Option Act
refused cause = (mark cause 1 ∷ [], None)
