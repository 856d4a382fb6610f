use Rattle.std.proofs.Common.{ℕ, pos, ◌≡◌, ◌*◌, ◌%◌, ◌<◌, slice_index_or, unsigned_abs}
use Rattle.fx_fixed.proofs.reduced.divisor_of.Given as goal

abbrev pub invariant-coefficients : goal.invariant-coefficients
invariant-coefficients l = record {
  positive : 0 < l.divisor;
  whole : l.denominator % l.divisor ≡ 0;
  products : (k : ℕ) → k < l.place → (unsigned_abs l.gain * unsigned_abs (slice_index_or l.coefficients k (pos 0))) % l.divisor ≡ 0;
}
