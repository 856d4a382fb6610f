-- Four lanes of signed numbers (this project's profile).
use Rattle.std.specs.Prelude.{ℕ, ◌≤◌, ◌≡◌, List, [], ◌∷◌, length, ℤ, pos, ◌*ℤ◌, ◌+ℤ◌, unsigned_abs}
use Rattle.std.specs.Simd.Lanes.{Each1, zip2}

-- a number of at most that magnitude
abbrev pub WithinLane : ℕ → ℤ → Type 0
WithinLane maximum z = unsigned_abs z ≤ maximum

-- four lanes of at most that magnitude
pub record LanesWithin (maximum : ℕ) (lanes : List ℤ) : Type 0 where
  pub four : length lanes ≡ 4
  pub small : Each1 (WithinLane maximum) lanes

-- the lanes, added up
abbrev pub lane_sum : List ℤ → ℤ
lane_sum [] = pos 0
lane_sum (x ∷ xs) = x +ℤ lane_sum xs

-- a coefficient of a high and a low part, in steps of 2^25
abbrev pub joined : ℤ → ℤ → ℤ
joined high low = (high *ℤ pos 33554432) +ℤ low

-- the same, lane by lane
abbrev pub joined_lanes : List ℤ → List ℤ → List ℤ
joined_lanes high low = zip2 joined high low
