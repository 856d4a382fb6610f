use Rattle.std.proofs.Common.{◌≡◌, ◌<◌, ◌≤◌, ◌-◌, ◌^◌, ℕ, pos, drop, length, get_or, unsigned_abs}
use Rattle.fx_tap_sums.specs.Products.{sum_of_products}
use Rattle.fx_tap_sums.proofs.transforms.spectrum.Spectrum.convolve.Given as goal

abbrev pub invariant-pieces : goal.invariant-pieces
invariant-pieces l = record {
  place : l.at ≤ length l.sums;
  done : (i : ℕ) → i < l.at → get_or l.sums i (pos 0) ≡ sum_of_products (drop i l.window) l.self;
  bound : (i : ℕ) → i < l.at → unsigned_abs (get_or l.sums i (pos 0)) ≤ 2 ^ 61;
}

abbrev pub decreases-pieces : goal.decreases-pieces
decreases-pieces l = length l.sums - l.at
