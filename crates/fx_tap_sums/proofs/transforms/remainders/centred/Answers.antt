use Rattle.std.proofs.Common.{arith, pos, negsuc}
use Rattle.std.proofs.lemmas.Int.{ints}
use Rattle.fx_tap_sums.proofs.transforms.remainders.centred.Goals as goal

pub returns-then-remainder-clause-same : goal.returns-then-remainder-clause-same
returns-then-remainder-clause-same c = (negsuc 0, omega (arith, ints))

pub returns-else-remainder-clause-same : goal.returns-else-remainder-clause-same
returns-else-remainder-clause-same c = (pos 0, omega (arith, ints))
