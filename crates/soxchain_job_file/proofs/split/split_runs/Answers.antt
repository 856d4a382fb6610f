use Rattle.soxchain_job_file.proofs.Splitting.{runs_lack_count}
use Rattle.soxchain_job_file.proofs.split.split_runs.Goals as goal

pub returns-in_err-count : goal.returns-in_err-count
returns-in_err-count c = rw c.from_residual-in_err-count.ensures
    (runs_lack_count c.args.bytes.now c.in_ok-began.rest.now c.in_ok-began.began c.in_ok-began.ensures c.in_err-count.ensures)
