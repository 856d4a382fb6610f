use Rattle.soxchain_job.proofs.run.finish.Given as goal

abbrev pub ghost-write_rest : goal.ghost-write_rest
ghost-write_rest g a = g.job

abbrev pub ghost-mark_complete : goal.ghost-mark_complete
ghost-mark_complete g a = g.job

abbrev pub ghost-publish : goal.ghost-publish
ghost-publish g a = g.job
