use Rattle.std.proofs.Common.{arith}
use Rattle.std.proofs.lemmas.Grind.{common_steps}
use Rattle.fx_cut.proofs.downsample.Downsample.thaw.Goals as goal

-- The prover finds these too, but searches long.
pub overflow_mul-made : goal.overflow_mul-made
overflow_mul-made c = grind (arith, common_steps)

pub overflow_add-skip : goal.overflow_add-skip
overflow_add-skip c = grind (arith, common_steps)

pub returns-clause-frozen : goal.returns-clause-frozen
returns-clause-frozen c = rw c.restored.ensures (grind (arith, common_steps))
