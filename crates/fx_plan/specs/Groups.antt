-- The effects that the words after the output are: each begins with a name, and any other word belongs to the one before it.
use Rattle.std.specs.Prelude.{if◌then◌else◌, List, [], ◌∷◌}
use Rattle.fx_plan_words.specs.Faults.{Word}
use Rattle.fx_plan.specs.Names.{is_name}

-- the words before the first name, and the effects from that name on
abbrev pub Groups : Type 0
Groups = List Word × List (List Word)

abbrev pub with_word : Word → Groups → Groups
with_word word groups = if is_name word then ([], (word ∷ groups.0) ∷ groups.1) else (word ∷ groups.0, groups.1)

abbrev pub groups_of : List Word → Groups
groups_of [] = ([], [])
groups_of (word ∷ words) = with_word word (groups_of words)

-- the first word counts as a name in any case
abbrev pub effects_of : List Word → List (List Word)
effects_of [] = []
effects_of (word ∷ words) = (word ∷ (groups_of words).0) ∷ (groups_of words).1
