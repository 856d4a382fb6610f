use Rattle.soxchain_job.proofs.run.publish_confirmed.Given as goal

abbrev pub ghost-publish : goal.ghost-publish
ghost-publish g a = g.job
