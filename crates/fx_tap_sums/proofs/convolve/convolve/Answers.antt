use Rattle.std.proofs.Common.{arith}
use Rattle.std.proofs.lemmas.Grind.{common_steps}
use Rattle.fx_tap_sums.proofs.convolve.convolve.Goals as goal

pub groups-preserved : goal.groups-preserved
groups-preserved c = grind (arith, common_steps)

pub rest-preserved : goal.rest-preserved
rest-preserved c = grind (arith, common_steps)
