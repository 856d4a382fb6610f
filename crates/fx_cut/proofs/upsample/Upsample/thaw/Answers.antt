use Rattle.std.proofs.Common.{arith}
use Rattle.std.proofs.lemmas.Grind.{common_steps}
use Rattle.fx_cut.proofs.upsample.Upsample.thaw.Goals as goal

pub returns-then-silent-factor-clause-thawed : goal.returns-then-silent-factor-clause-thawed
returns-then-silent-factor-clause-thawed c = grind (arith, common_steps)

pub returns-clause-frozen : goal.returns-clause-frozen
returns-clause-frozen c = rw c.restored.ensures (grind (arith, common_steps))
