use Rattle.soxchain_plan.specs.Answering.{Planned, Uncreated, Unplanned, Unsaid}
use Rattle.soxchain_plan.proofs.plan_line.Goals as goal

pub returns-in-Err : goal.returns-in-Err
returns-in-Err g c = Unplanned c.in-Err.fault c.in-Err.ensures c.stopped.ensures

pub returns-in_default : goal.returns-in_default
returns-in_default g c = Unsaid c.bytes_beyond-beyond.new.host c.bytes_beyond-beyond.result c.in-Ok.ensures.0 c.bytes_beyond-beyond.ensures c.stopped-in_default.ensures

pub returns-in-Some-output_fault : goal.returns-in-Some-output_fault
returns-in-Some-output_fault g c =
    let refused = c.in-Some-output_fault.ensures.refused in
    Uncreated c.bytes_beyond-beyond.new.host c.output_fault.new.host c.bytes_beyond-beyond.result c.in-Some-output_fault.name.now c.in-Some-output_fault.fault c.in-Ok.ensures.0 c.bytes_beyond-beyond.ensures refused.0 refused.1 c.stopped-in-Some-output_fault.ensures

pub returns : goal.returns
returns g c =
    let said = c.in-Some.ensures in
    Planned c.bytes_beyond-beyond.new.host c.output_fault.new.host said.0 c.in-Ok.ensures.0 (rw (c.in-Ok.ensures.1) at said.1) (rw (said.2) c.bytes_beyond-beyond.ensures) c.in-None.ensures.accepted (rw (c.deref.ensures.value, said.3) at c.show.ensures)
