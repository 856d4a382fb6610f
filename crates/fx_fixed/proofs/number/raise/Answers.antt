use Rattle.std.proofs.Common.{arith}
use Rattle.fx_fixed.proofs.number.raise.Goals as goal
use Rattle.fx_fixed.proofs.Powers.{raised_above}

pub returns-then-places-gt37 : goal.returns-then-places-gt37
returns-then-places-gt37 c = raised_above c.args.number c.args.places c.args.maximum (omega arith) c.if-places-gt37.true c.requires
