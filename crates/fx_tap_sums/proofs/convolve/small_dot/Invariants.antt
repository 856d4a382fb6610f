use Rattle.fx_tap_sums.proofs.Convolving.{Adding}
use Rattle.fx_tap_sums.proofs.convolve.small_dot.Given as goal

abbrev pub invariant-taps : goal.invariant-taps
invariant-taps l = Adding l.samples l.weights l.tap l.sum
