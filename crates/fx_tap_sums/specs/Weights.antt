-- Weights over a denominator that stand for gains.
use Rattle.std.specs.Prelude.{ℕ, ℤ, List, pos, ◌≤◌, slice_index_or, unsigned_abs, ◌≡◌, ◌*◌, ◌*ℤ◌, ◌+ℤ◌, length, map, drop}
use Rattle.fx_fixed.specs.Rounding.{rounding}
use Rattle.fx_fixed.specs.declared.gains.TheConstants.{UNIT}
use Rattle.fx_tap_sums.specs.Products.{sum_of_products}

-- weights over a denominator, that of gain-in first
pub record Weights : Type 0 where
  pub weights : List ℤ
  pub denominator : ℕ

-- none is greater in magnitude
abbrev pub AreSmall : ℕ → List ℤ → Type 0
AreSmall maximum weights = (k : ℕ) → unsigned_abs (slice_index_or weights k (pos 0)) ≤ maximum

-- sums of products with those weights, over the denominator, round as those with the gains do
abbrev pub SoundsAs : ℤ → ℤ → List (ℕ × ℤ) → Weights → Type 0
SoundsAs gain_in gain_out taps w =
    (x : ℤ) (ys : List ℤ) → length ys ≡ length taps → rounding ((slice_index_or w.weights 0 (pos 0) *ℤ x) +ℤ sum_of_products (drop 1 w.weights) ys) w.denominator
    ≡ rounding (gain_out *ℤ ((gain_in *ℤ x) +ℤ sum_of_products (map (λ e. e.1) taps) ys)) (UNIT * UNIT)
