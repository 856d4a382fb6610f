use Rattle.soxchain_plan.proofs.stop.PlanStop.tell_message.Goals as goal

pub returns-in-Line : goal.returns-in-Line
returns-in-Line g c = rw c.in-Line.is (rw (c.label_of_line.ensures) at c.tell_line.ensures)

pub returns-in-CannotOpen : goal.returns-in-CannotOpen
returns-in-CannotOpen g c = rw c.in-CannotOpen.is c.tell_cannot_open.ensures

pub returns-in-Refused : goal.returns-in-Refused
returns-in-Refused g c = rw c.in-Refused.is c.tell_refusal-in-Refused.ensures

pub returns-in-BadOption : goal.returns-in-BadOption
returns-in-BadOption g c = rw c.in-BadOption.is (rw (c.label_of_line-in-BadOption.ensures) at c.tell_line-in-BadOption.ensures)

pub returns-in-Head : goal.returns-in-Head
returns-in-Head g c = rw c.in-Head.is c.tell_refusal.ensures

pub returns-in-CannotCreate : goal.returns-in-CannotCreate
returns-in-CannotCreate g c = rw c.in-CannotCreate.is c.tell_cannot_open-in-CannotCreate.ensures
