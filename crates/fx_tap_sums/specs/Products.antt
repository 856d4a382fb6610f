-- Sums of products (sox(1), EFFECTS, fir: each sample is a sum of samples times coefficients).
use Rattle.std.specs.Prelude.{List, [], ◌∷◌, ℤ, pos, ◌*ℤ◌, ◌+ℤ◌}

-- the products of the numbers at the same places, added up
abbrev pub sum_of_products : List ℤ → List ℤ → ℤ
sum_of_products [] cs = pos 0
sum_of_products (x ∷ xs) [] = pos 0
sum_of_products (x ∷ xs) (c ∷ cs) = x *ℤ c +ℤ sum_of_products xs cs
