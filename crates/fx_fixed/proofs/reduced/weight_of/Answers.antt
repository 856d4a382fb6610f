use Rattle.std.proofs.Common.{arith}
use Rattle.std.proofs.lemmas.Grind.{common_steps}
use Rattle.fx_fixed.proofs.reduced.weight_of.Goals as goal

-- The prover finds these too, but searches long.
pub returns-then-gain-coefficient : goal.returns-then-gain-coefficient
returns-then-gain-coefficient c = grind (arith, common_steps)
