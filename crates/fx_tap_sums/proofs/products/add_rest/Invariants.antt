use Rattle.std.proofs.Common.{◌≡◌, ◌*◌, ◌^◌, drop, pos, ◌+ℤ◌, neg_ℤ, ◌≤ℤ◌}
use Rattle.fx_tap_sums.specs.Products.{sum_of_products}
use Rattle.fx_tap_sums.proofs.products.add_rest.Given as goal

abbrev pub invariant-loop-i : goal.invariant-loop-i
invariant-loop-i l = record {
  low : neg_ℤ (pos (l.i * 2 ^ 85)) ≤ℤ l.sum;
  high : l.sum ≤ℤ pos (l.i * 2 ^ 85);
  value : (l.sum +ℤ sum_of_products (drop l.i l.samples) (drop l.i l.coefficients)) ≡ (l.fn.start +ℤ sum_of_products (drop l.fn.at l.samples) (drop l.fn.at l.coefficients));
}
