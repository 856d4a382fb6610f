use Rattle.std.proofs.Common.{◌≡◌, ◌+◌, take, sum_by, unsigned_abs}
use Rattle.fx_tap_sums.proofs.transforms.spectrum.is_small.Given as goal

abbrev pub invariant-weights : goal.invariant-weights
invariant-weights l = l.left + sum_by unsigned_abs (take l.weight-index l.weights) ≡ l.maximum
