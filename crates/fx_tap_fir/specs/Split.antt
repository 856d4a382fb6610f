-- Coefficients in two parts.
use Rattle.std.specs.Prelude.{◌≡◌, ◌<◌, ℕ, List, ℤ, pos, ◌+ℤ◌, ◌*ℤ◌, length, slice_index_or}
use Rattle.fx_tap_sums.specs.Products.{sum_of_products}

-- the high parts of coefficients, and the low ones
pub record SplitParts : Type 0 where
  pub high : List ℤ
  pub low : List ℤ

-- the value of a high and a low part, in steps of 2^20
abbrev pub joined_split : ℤ → ℤ → ℤ
joined_split high low = (high *ℤ pos 1048576) +ℤ low

-- at each place, the parts add up to the coefficient
abbrev pub AreSplit : List ℤ → List ℤ → List ℤ → Type 0
AreSplit coefficients high low = (k : ℕ) → k < length coefficients → slice_index_or coefficients k (pos 0) ≡ joined_split (slice_index_or high k (pos 0)) (slice_index_or low k (pos 0))

-- sums of samples times the parts are together those of the coefficients
pub record AddUpTo (coefficients : List ℤ) (parts : SplitParts) : Type 0 where
  pub low_count : length parts.low ≡ length coefficients
  pub high_count : length parts.high ≡ length coefficients
  pub sums : (samples : List ℤ) → joined_split (sum_of_products samples parts.high) (sum_of_products samples parts.low) ≡ sum_of_products samples coefficients
