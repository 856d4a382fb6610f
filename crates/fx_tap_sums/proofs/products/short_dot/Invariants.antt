use Rattle.std.proofs.Common.{◌≡◌, ◌*◌, ◌^◌, ◌-◌, ◌≤◌, length, drop, ◌+ℤ◌, to_z, w64, map}
use Rattle.fx_tap_sums.specs.Products.{sum_of_products}
use Rattle.fx_tap_sums.specs.Lanes.{LanesWithin, joined, lane_sum}
use Rattle.fx_tap_sums.proofs.products.short_dot.Given as goal

abbrev pub invariant-loop-at : goal.invariant-loop-at
invariant-loop-at l = record {
  value : (joined (lane_sum (map (to_z w64) l.high)) (lane_sum (map (to_z w64) l.low)) +ℤ sum_of_products (drop l.at l.samples) (drop l.at l.coefficients)) ≡ sum_of_products l.samples l.coefficients;
  high : LanesWithin (l.at * 2 ^ 54) (map (to_z w64) l.high);
  low : LanesWithin (l.at * 2 ^ 54) (map (to_z w64) l.low);
  place : l.at ≤ length l.samples;
}

abbrev pub decreases-loop-at : goal.decreases-loop-at
decreases-loop-at l = length l.samples - l.at
