use Rattle.fx_fixed.proofs.number.lower.Goals as goal
use Rattle.fx_fixed.proofs.Powers.{lowered_away}

pub returns-then-places-gt38 : goal.returns-then-places-gt38
returns-then-places-gt38 c = lowered_away c.args.number c.args.places c.requires c.if-places-gt38.true
