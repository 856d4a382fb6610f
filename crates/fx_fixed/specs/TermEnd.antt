-- Where a term ends.
use Rattle.std.specs.Prelude.{ℕ, ◌+◌, not, ◌&&◌, Bool, if◌then◌else◌, List, [], ◌∷◌}
use Rattle.fx_fixed.specs.Decimals.{is_mark, is_sign}

-- how long the first term of a text is: up to a plus or a minus that does not follow an `e`
abbrev pub term_len : Bool → List ℕ → ℕ
term_len after_mark [] = 0
term_len after_mark (c ∷ cs) = if is_sign c && not after_mark then 0 else 1 + term_len (is_mark c) cs
