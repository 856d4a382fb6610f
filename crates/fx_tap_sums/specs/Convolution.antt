-- Sums of weights times as many samples of a window, from each of its places on.
use Rattle.std.specs.Prelude.{◌≡◌, ◌<◌, ◌≤◌, ◌^◌, ℕ, ℤ, pos, List, drop, length, slice_index_or, unsigned_abs}
use Rattle.fx_tap_sums.specs.Products.{sum_of_products}

-- at each place i of the sums stands that of the weights times as many samples of the window from place i on
abbrev pub AreSums : List ℤ → List ℤ → List ℤ → Type 0
AreSums weights window sums = (i : ℕ) → i < length sums → slice_index_or sums i (pos 0) ≡ sum_of_products (drop i window) weights

-- the first `count` sums have magnitudes of at most 2^61
abbrev pub AreSmallSums : ℕ → List ℤ → Type 0
AreSmallSums count sums = (i : ℕ) → i < count → unsigned_abs (slice_index_or sums i (pos 0)) ≤ 2 ^ 61
