use Rattle.soxchain_job.proofs.run.run_once.Given as goal

abbrev pub ghost-resume : goal.ghost-resume
ghost-resume g a = g.job

abbrev pub ghost-convert_rest : goal.ghost-convert_rest
ghost-convert_rest g a = g.job

abbrev pub ghost-finish : goal.ghost-finish
ghost-finish g a = g.job

abbrev pub ghost-publish_confirmed : goal.ghost-publish_confirmed
ghost-publish_confirmed g a = g.job
