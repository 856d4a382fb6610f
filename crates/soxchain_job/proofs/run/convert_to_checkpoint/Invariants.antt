use Rattle.soxchain_job.proofs.run.convert_to_checkpoint.Given as goal

abbrev pub ghost-convert_pieces : goal.ghost-convert_pieces
ghost-convert_pieces g a = g.job

abbrev pub ghost-write_checkpoint : goal.ghost-write_checkpoint
ghost-write_checkpoint g a = g.job
