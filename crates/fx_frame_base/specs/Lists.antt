-- Lists by index, and lists in pieces (this project's profile).
use Rattle.std.specs.Prelude.{◌≡◌, ℕ, zero, suc, ◌+◌, ◌*◌, ◌<◌, List, [], ◌∷◌, take, drop}

-- f at consecutive numbers from the first one on
abbrev pub tabulate : {X : Type 0} → (ℕ → X) → ℕ → ℕ → List X
tabulate f from zero = []
tabulate f from (suc count) = f from ∷ tabulate f (suc from) count

-- the first pieces of one size
abbrev pub pieces : {X : Type 0} → ℕ → ℕ → List X → List (List X)
pieces size zero xs = []
pieces size (suc count) xs = take size xs ∷ pieces size count (drop size xs)

-- a place that holds no sample of this channel in `count` frames
abbrev pub IsOtherPlace : ℕ → ℕ → ℕ → ℕ → Type 0
IsOtherPlace channels channel count place = (i : ℕ) → i < count → place ≡ i * channels + channel → ⊥
