use Rattle.std.proofs.Common.{◌≡◌, ◌%◌, ◌<◌, ℕ, pos, get_or}
use Rattle.fx_tap_sums.proofs.Divided.{IsUpper}
use Rattle.fx_tap_sums.proofs.transforms.spectrum.are_upper.Given as goal

abbrev pub invariant-samples : goal.invariant-samples
invariant-samples l = l.bits % 256 ≡ 0 → (k : ℕ) → k < l.sample-index → IsUpper (get_or l.window k (pos 0))
