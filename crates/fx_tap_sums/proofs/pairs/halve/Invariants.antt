use Rattle.std.proofs.Common.{◌≡◌, ◌<◌, ℕ, true, pos, ◌*ℤ◌, slice_index_or}
use Rattle.fx_tap_sums.specs.Pairs.{AreHalves}
use Rattle.fx_tap_sums.proofs.pairs.halve.Given as goal

abbrev pub invariant-samples : goal.invariant-samples
invariant-samples l = record {
  upper : l.is_exact ≡ true → (i : ℕ) → i < l.place → slice_index_or l.window i (pos 0) ≡ slice_index_or l.halves i (pos 0) *ℤ pos 65536;
  exact : AreHalves l.place l.window → l.is_exact ≡ true;
}
