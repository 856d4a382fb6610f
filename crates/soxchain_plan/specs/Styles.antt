-- The style in which a plan is shown, by the first word (this project's profile).
use Rattle.std.specs.Prelude.{ℕ, List, [], ◌∷◌, codes, if◌then◌else◌}
use Rattle.std.specs.Str.{bytes_eq}
use Rattle.soxchain_plan.specs.declared.style.Style.{Style}
use Rattle.soxchain_plan.specs.declared.style.Style.TheVariants.{Text, Json}

-- the style that the first word asks for, and the words of the command line
abbrev pub styled : List (List ℕ) → Style × List (List ℕ)
styled [] = (Text, [])
styled (word ∷ words) = if bytes_eq word (codes "--json") then (Json, words) else (Text, word ∷ words)
