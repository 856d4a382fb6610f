use Rattle.fx_plan.specs.Plans.{plan_bytes}
use Rattle.soxchain_cli.specs.Working.{MemoryRefused, Read, Unread}
use Rattle.soxchain_cli.proofs.work_line.Goals as goal

pub returns-in-Err-CannotRead : goal.returns-in-Err-CannotRead
returns-in-Err-CannotRead g c = Unread c.in-Err-CannotRead.name.now (rw (c.in-Err-CannotRead.field-0-is) at c.in-Err-CannotRead.ensures.named) c.cannot_open.ensures.status c.cannot_open.ensures.delivered

pub returns-in-Err-Memory : goal.returns-in-Err-Memory
returns-in-Err-Memory g c = MemoryRefused (rw (c.in-Err-Memory.field-0-is) at c.in-Err-Memory.ensures.named) c.refuse_line.ensures.status c.refuse_line.ensures.delivered

pub returns : goal.returns
returns g c = Read c.read_files.new.host (plan_bytes c.in-Ok.files.items) c.in-Ok.ensures.each (rw (c.deref.ensures.value) at c.process.ensures)
