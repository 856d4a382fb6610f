use Rattle.std.proofs.Common.{arith}
use Rattle.std.proofs.lemmas.Grind.{common_steps}
use Rattle.fx_fixed.proofs.capped.capped_number.Goals as goal
use Rattle.fx_fixed.proofs.Keeping.{digits_value-more_digit}

pub loop-byte-preserved : goal.loop-byte-preserved
loop-byte-preserved c = record {
  digits = grind (arith, common_steps);
  value = grind (arith, digits_value-more_digit);
}
