use Rattle.std.proofs.Common.{◌≡◌, ◌<◌, ◌≤◌, ◌-◌, ◌^◌, ℕ, pos, drop, length, slice_index_or, unsigned_abs}
use Rattle.fx_tap_sums.specs.Products.{sum_of_products}
use Rattle.fx_tap_sums.proofs.convolve.convolve.Given as goal

abbrev pub invariant-groups : goal.invariant-groups
invariant-groups l = record {
  place : l.at ≤ length l.sums;
  done : (i : ℕ) → i < l.at → slice_index_or l.sums i (pos 0) ≡ sum_of_products (drop i l.window) l.weights;
  bound : (i : ℕ) → i < l.at → unsigned_abs (slice_index_or l.sums i (pos 0)) ≤ 2 ^ 61;
}

abbrev pub decreases-groups : goal.decreases-groups
decreases-groups l = length l.sums - l.at

abbrev pub invariant-rest : goal.invariant-rest
invariant-rest l = record {
  done : (i : ℕ) → i < l.place → slice_index_or l.sums i (pos 0) ≡ sum_of_products (drop i l.window) l.weights;
  bound : (i : ℕ) → i < l.place → unsigned_abs (slice_index_or l.sums i (pos 0)) ≤ 2 ^ 61;
}
