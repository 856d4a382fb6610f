use Rattle.std.proofs.Common.{arith}
use Rattle.std.proofs.lemmas.Grind.{common_steps}
use Rattle.fx_tap_pointwise.proofs.remix.parts_in.Goals as goal

pub contributions-preserved : goal.contributions-preserved
contributions-preserved c = grind (arith, common_steps)
