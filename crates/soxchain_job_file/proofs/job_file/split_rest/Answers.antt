use Rattle.soxchain_job_file.proofs.Splitting.{rest_lacks_size, rest_lacks_end}
use Rattle.soxchain_job_file.proofs.job_file.split_rest.Goals as goal

pub returns-in_err-size : goal.returns-in_err-size
returns-in_err-size c = rw c.from_residual-in_err-size.ensures
    (rest_lacks_size c.args.bytes.now c.in_ok-runs.rest.now c.in_ok-runs.runs c.in_ok-runs.ensures c.in_err-size.ensures)

pub returns-then-size-checkpoint : goal.returns-then-size-checkpoint
returns-then-size-checkpoint c =
    rest_lacks_end c.args.bytes.now c.in_ok-runs.rest.now c.in_ok-runs.runs c.in_ok-runs.ensures c.in_ok-size.size c.in_ok-size.checkpoint.now c.in_ok-size.ensures
    c.if-size-checkpoint.true
