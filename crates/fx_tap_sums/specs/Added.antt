-- Numbers that are added at each place (this project's profile).
use Rattle.std.specs.Prelude.{◌≡◌, ◌<◌, ◌≤◌, ◌+◌, ℕ, ℤ, pos, ◌+ℤ◌, ◌*ℤ◌, List, slice_index_or, unsigned_abs}

-- to each of the first `count` sums the sample at its place was added, times the factor
abbrev pub AddsScaled : ℕ → List ℤ → List ℤ → ℤ → List ℤ → Type 0
AddsScaled count old new factor samples = (k : ℕ) → k < count → slice_index_or new k (pos 0) ≡ slice_index_or old k (pos 0) +ℤ (factor *ℤ slice_index_or samples k (pos 0))

-- each of the first `count` sums is that of the numbers at its place in both lists
abbrev pub AddsEach : ℕ → List ℤ → List ℤ → List ℤ → Type 0
AddsEach count xs ys sums = (k : ℕ) → k < count → slice_index_or sums k (pos 0) ≡ slice_index_or xs k (pos 0) +ℤ slice_index_or ys k (pos 0)

-- the first `count` numbers are greater by no more in magnitude
abbrev pub FirstGrowAtMost : ℕ → ℕ → List ℤ → List ℤ → Type 0
FirstGrowAtMost count maximum old new = (k : ℕ) → k < count → unsigned_abs (slice_index_or new k (pos 0)) ≤ unsigned_abs (slice_index_or old k (pos 0)) + maximum

-- no number grows by more in magnitude
abbrev pub GrowAtMost : ℕ → List ℤ → List ℤ → Type 0
GrowAtMost maximum old new = (k : ℕ) → unsigned_abs (slice_index_or new k (pos 0)) ≤ unsigned_abs (slice_index_or old k (pos 0)) + maximum
