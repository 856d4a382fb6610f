use Rattle.soxchain_job.proofs.run.resume.Given as goal

abbrev pub ghost-begin : goal.ghost-begin
ghost-begin g a = g.job

abbrev pub ghost-resume_from : goal.ghost-resume_from
ghost-resume_from g a = g.job
