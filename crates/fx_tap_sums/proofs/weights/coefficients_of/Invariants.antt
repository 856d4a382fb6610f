use Rattle.std.proofs.Common.{◌≡◌, ◌<◌, ◌+◌, ℕ, pos, length, slice_index_or}
use Rattle.fx_tap_sums.proofs.weights.coefficients_of.Given as goal

abbrev pub invariant-taps : goal.invariant-taps
invariant-taps l = record {
  size : length l.coefficients ≡ 8;
  gain_in : slice_index_or l.coefficients 0 (pos 0) ≡ l.fn.gain_in;
  decays : (k : ℕ) → k < l.place → slice_index_or l.coefficients (k + 1) (pos 0) ≡ (slice_index_or l.taps k (0, pos 0)).1;
}
