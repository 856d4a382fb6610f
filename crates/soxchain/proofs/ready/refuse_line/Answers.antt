use Rattle.soxchain.proofs.ready.refuse_line.Goals as goal

pub returns-clause-delivered : goal.returns-clause-delivered
returns-clause-delivered g c = rw (c.label_of_line.ensures) at c.tell_line.ensures
