use Rattle.std.proofs.Common.{◌≡◌, ◌*◌, ◌^◌, ◌-◌, ◌≤◌, length, drop, pos, neg_ℤ, ◌+ℤ◌, ◌≤ℤ◌}
use Rattle.fx_tap_sums.specs.Products.{sum_of_products}
use Rattle.fx_tap_sums.proofs.products.dot.Given as goal

abbrev pub invariant-loop-at : goal.invariant-loop-at
invariant-loop-at l = record {
  value : (l.sum +ℤ sum_of_products (drop l.at l.samples) (drop l.at l.coefficients)) ≡ sum_of_products l.samples l.coefficients;
  low : neg_ℤ (pos (l.at * 2 ^ 85)) ≤ℤ l.sum;
  high : l.sum ≤ℤ pos (l.at * 2 ^ 85);
  place : l.at ≤ length l.samples;
}

abbrev pub decreases-loop-at : goal.decreases-loop-at
decreases-loop-at l = length l.samples - l.at
