use Rattle.fx_plan.proofs.Reading.{spelled_read}
use Rattle.fx_plan.proofs.line.front_is_read.Goals as goal

pub returns : goal.returns
returns c = spelled_read
