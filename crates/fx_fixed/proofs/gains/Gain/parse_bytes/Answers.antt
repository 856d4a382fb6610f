use Rattle.std.proofs.Common.{arith}
use Rattle.std.proofs.lemmas.Grind.{common_steps}
use Rattle.fx_fixed.proofs.gains.Gain.parse_bytes.Goals as goal

-- The prover finds these too, but searches long.
pub returns-in_default-nearest_parts : goal.returns-in_default-nearest_parts
returns-in_default-nearest_parts c = grind (arith, common_steps)

pub returns-then-is_negative : goal.returns-then-is_negative
returns-then-is_negative c = grind (arith, common_steps)

pub returns : goal.returns
returns c = grind (arith, common_steps)
