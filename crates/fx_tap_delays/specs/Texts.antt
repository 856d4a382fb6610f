-- What a call returns that reads words of the command line (this project's profile).
use Rattle.std.specs.Prelude.{List, Result, String}
use Rattle.fx_plan_words.specs.declared.fault.Mark.{Mark}
use Rattle.fx_plan_words.specs.declared.fault.WordsRefusal.{WordsRefusal}
use Rattle.fx_plan_words.specs.Faults.{ReadsWords, Word, word_texts}

-- the value that the texts of these words have, or one of their faults
abbrev pub ReadsTexts : {X Y Z : Type 0} → (X → Y) → Result X WordsRefusal → (List Word → List Mark) → (List Word → Y) → List (String Z) → Type 0
ReadsTexts view result faults value words = ReadsWords view result (faults (word_texts words)) (value (word_texts words))
