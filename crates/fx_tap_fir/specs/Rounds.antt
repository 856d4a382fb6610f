-- Sums of coefficients times as many samples of a window, rounded (sox(1), EFFECTS, fir).
use Rattle.std.specs.Prelude.{ℕ, ℤ, pos, Bool, List, drop, slice_index_or}
use Rattle.fx_fixed.specs.Rounding.{rounding}
use Rattle.fx_fixed.specs.declared.gains.TheConstants.{UNIT}
use Rattle.fx_tap_sums.specs.Products.{sum_of_products}
use Rattle.fx_tap_fir.specs.Split.{SplitParts, joined_split}

-- the sum of the coefficients times as many samples of the window from place i on
abbrev pub rounded_sum_from : List ℤ → List ℤ → ℕ → ℤ × Bool
rounded_sum_from coefficients window i = rounding (sum_of_products (drop i window) coefficients) UNIT

-- the same of coefficients in two parts, whose sums are joined
abbrev pub rounded_joined_from : SplitParts → List ℤ → ℕ → ℤ × Bool
rounded_joined_from parts window i = rounding (joined_split (sum_of_products (drop i window) parts.high) (sum_of_products (drop i window) parts.low)) UNIT

-- a sum of high parts and one of low parts, joined
abbrev pub rounded_joined : List ℤ → List ℤ → ℕ → ℤ × Bool
rounded_joined high low i = rounding (joined_split (slice_index_or high i (pos 0)) (slice_index_or low i (pos 0))) UNIT
