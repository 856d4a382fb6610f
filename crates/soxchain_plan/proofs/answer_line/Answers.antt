use Rattle.fx_plan.specs.Plans.{plan_bytes}
use Rattle.soxchain_plan.specs.Answering.{MemoryRefused, Known, Unread}
use Rattle.soxchain_plan.proofs.answer_line.Goals as goal

pub returns-in-Err-CannotRead : goal.returns-in-Err-CannotRead
returns-in-Err-CannotRead g c = Unread c.read_files.new.host c.in-Err-CannotRead.name.now (rw (c.in-Err-CannotRead.field-0-is) at c.in-Err-CannotRead.ensures.named) c.stopped.ensures

pub returns-in-Err-Memory : goal.returns-in-Err-Memory
returns-in-Err-Memory g c = MemoryRefused c.read_files.new.host (rw (c.in-Err-Memory.field-0-is) at c.in-Err-Memory.ensures.named) c.stopped-in-Err-Memory.ensures

pub returns : goal.returns
returns g c = Known c.read_files.new.host (plan_bytes c.in-Ok.files.items) c.in-Ok.ensures.each (rw (c.deref.ensures.value) at c.answer_files.ensures)
