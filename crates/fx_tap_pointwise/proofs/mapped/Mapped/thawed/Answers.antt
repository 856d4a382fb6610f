use Rattle.std.proofs.Common.{arith}
use Rattle.std.proofs.lemmas.Grind.{common_steps}
use Rattle.fx_tap_pointwise.proofs.mapped.Mapped.thawed.Goals as goal

pub returns-clause-frozen : goal.returns-clause-frozen
returns-clause-frozen g c = rw c.restored.ensures (grind (arith, common_steps))
