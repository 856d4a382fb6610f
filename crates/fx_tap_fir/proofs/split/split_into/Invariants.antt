use Rattle.std.proofs.Common.{◌≡◌, ◌<◌, ℕ, pos, slice_index_or}
use Rattle.fx_tap_fir.specs.Split.{joined_split}
use Rattle.fx_tap_fir.proofs.split.split_into.Given as goal

abbrev pub invariant-coefficients : goal.invariant-coefficients
invariant-coefficients l = (k : ℕ) → k < l.place → slice_index_or l.coefficients k (pos 0) ≡ joined_split (slice_index_or l.high k (pos 0)) (slice_index_or l.low k (pos 0))
