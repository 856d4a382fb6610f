use Rattle.soxchain_job.proofs.publish.publish.Given as goal

abbrev pub ghost-rename_part : goal.ghost-rename_part
ghost-rename_part g a = g.job
