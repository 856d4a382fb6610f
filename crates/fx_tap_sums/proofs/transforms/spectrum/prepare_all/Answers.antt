use Rattle.std.proofs.Common.{arith, refl}
use Rattle.fx_tap_sums.proofs.Primes.{first_steps, second_steps, third_steps}
use Rattle.fx_tap_sums.proofs.transforms.spectrum.prepare_all.Goals as goal

pub prepare-requires : goal.prepare-requires
prepare-requires c = (omega arith, ((omega arith, omega arith, refl), (first_steps, c.requires)))

pub prepare-requires-2 : goal.prepare-requires-2
prepare-requires-2 c = (omega arith, ((omega arith, omega arith, refl), (second_steps, c.requires)))

pub prepare-requires-3 : goal.prepare-requires-3
prepare-requires-3 c = (omega arith, ((omega arith, omega arith, refl), (third_steps, c.requires)))
