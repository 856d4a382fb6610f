-- Coefficients over a denominator, in lowest terms.
use Rattle.std.specs.Prelude.{ℕ, ℤ, ◌≡◌, ◌^◌, ◌≤◌, List, drop, length, sum_by, unsigned_abs}
use Rattle.fx_fixed.specs.Rounding.{rounding}
use Rattle.fx_tap_sums.specs.Weights.{Weights}
use Rattle.fx_tap_sums.specs.Products.{sum_of_products}

-- those weights are small, and sums of samples times them, from any of them on, round as those of the coefficients over the whole
pub record SumsAs (coefficients : List ℤ) (whole : ℕ) (w : Weights) : Type 0 where
  pub count : length w.weights ≡ length coefficients
  pub small : sum_by unsigned_abs w.weights ≤ 2 ^ 30
  pub rounds : (samples : List ℤ) (n : ℕ) → rounding (sum_of_products samples (drop n w.weights)) w.denominator ≡ rounding (sum_of_products samples (drop n coefficients)) whole
