use Rattle.soxchain_job.proofs.memory.replace.Goals as goal

pub returns-clause-history : goal.returns-clause-history
returns-clause-history c = (c.in_ok-all_copied.field-0, c.in_ok-all_copied.ensures, c.in_ok-push.ensures.items)
