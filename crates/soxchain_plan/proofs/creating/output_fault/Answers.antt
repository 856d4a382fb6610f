use Rattle.std.proofs.Common.{sym}
use Rattle.soxchain_plan.specs.Creating.{Refused}
use Rattle.soxchain_plan.proofs.creating.output_fault.Goals as goal

pub returns-clause-refused : goal.returns-clause-refused
returns-clause-refused g c = (sym c.in-Named.ensures, Refused c.is_input.new.host (rw c.input.ensures at (c.is_input.ensures.other c.if-is_input.false)) c.in_ok-fault.ensures)
