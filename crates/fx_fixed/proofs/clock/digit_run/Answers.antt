use Rattle.std.proofs.Common.{arith}
use Rattle.std.proofs.lemmas.Grind.{common_steps}
use Rattle.fx_fixed.proofs.clock.digit_run.Goals as goal
use Rattle.fx_fixed.proofs.Keeping.{digits_value-more_digit}
use Rattle.fx_fixed.proofs.Powers.{power_more}

pub loop-i-preserved : goal.loop-i-preserved
loop-i-preserved c = record {
  place = grind (arith, common_steps);
  value = grind (arith, digits_value-more_digit);
  bound = grind (arith, power_more);
  short = omega arith;
}
