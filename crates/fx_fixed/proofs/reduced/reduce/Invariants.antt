use Rattle.std.proofs.Common.{ℕ, pos, ◌≡◌, ◌*ℤ◌, ◌<◌, length, slice_index_or}
use Rattle.fx_fixed.proofs.reduced.reduce.Given as goal

abbrev pub invariant-coefficients : goal.invariant-coefficients
invariant-coefficients l = record {
  len : length l.weights ≡ length l.coefficients;
  above : (k : ℕ) → k < l.place → pos l.divisor *ℤ slice_index_or l.weights k (pos 0) ≡ l.gain *ℤ slice_index_or l.coefficients k (pos 0);
}
