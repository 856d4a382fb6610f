-- Sums over stages in sequence: the frames that they may hold, and the frames that they hold now (this project's profile).
use Rattle.std.specs.Prelude.{ℕ, ◌+◌, List, [], ◌∷◌, length, map}
use Rattle.fx_frame_base.specs.Stage.{StageKind, Acts, hold_of}

-- the sum of f over the stages
abbrev pub total : {X : Type 0} → (X → ℕ) → List X → ℕ
total f [] = 0
total f (x ∷ xs) = f x + total f xs

-- the frames that all may hold
abbrev pub hold_sum : List StageKind → ℕ
hold_sum ks = total hold_of ks

-- the capacities of all lines, added
abbrev pub line_sum : List StageKind → ℕ
line_sum ks = total (λ (k : StageKind). k.line) ks

-- what stages were made with, in order
abbrev pub recipes : {S R : Type 0} → Acts S R → List S → List R
recipes acts stages = map acts.recipe stages

-- the kinds of stages, in order
abbrev pub kinds : {S R : Type 0} → Acts S R → List S → List StageKind
kinds acts stages = map acts.kind_of (recipes acts stages)

-- the frames that stages hold now
abbrev pub held_sum : {S R : Type 0} → Acts S R → List S → ℕ
held_sum acts stages = total (λ s. length (acts.stored s)) stages

-- the capacities of the lines of stages now, added
abbrev pub capacity_sum : {S R : Type 0} → Acts S R → List S → ℕ
capacity_sum acts stages = total acts.capacity stages
