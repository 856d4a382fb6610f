-- What bytes begin with.
use Rattle.std.specs.Prelude.{◌≡◌, ℕ, List, ◌++◌, length, All}

-- the bytes are those of a value that fits, and these others
abbrev pub Splits : {X : Type 0} → (X → List ℕ) → (X → Type 0) → List ℕ → X → List ℕ → Type 0
Splits to_bytes Fits bytes value rest = Fits value × (bytes ≡ to_bytes value ++ rest)

-- they begin with those of no value that fits
abbrev pub Lacks : {X : Type 0} → (X → List ℕ) → (X → Type 0) → List ℕ → Type 0
Lacks {X = X} to_bytes Fits bytes = (value : X) (rest : List ℕ) → Fits value → bytes ≡ to_bytes value ++ rest → ⊥

-- so many values, each of which fits
abbrev pub SoMany : {X : Type 0} → (X → Type 0) → ℕ → List X → Type 0
SoMany Fits count items = (length items ≡ count) × All Fits items
