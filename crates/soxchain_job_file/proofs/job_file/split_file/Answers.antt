use Rattle.soxchain_job_file.specs.JobBytes.{identity_value}
use Rattle.soxchain_job_file.proofs.Splitting.{file_lacks_identity, file_lacks_rest, file_found, front_lacks_first_line}
use Rattle.soxchain_job_file.proofs.job_file.split_file.Goals as goal

pub returns-in_default-2 : goal.returns-in_default-2
returns-in_default-2 c =
    file_lacks_identity c.args.front.now c.in-Some.rest.now c.in-Some.ensures (rw c.in_default-2.is at c.in_ok-identity.ensures)

pub returns-in-Some-split_rest : goal.returns-in-Some-split_rest
returns-in-Some-split_rest c =
    file_found c.args.front.now c.in-Some.rest.now c.in-Some.ensures (identity_value c.in-Some-2.identity) c.in-Some-2.rest.now
    (rw c.in-Some-2.is at c.in_ok-identity.ensures) c.in-Some-split_rest.runs c.in-Some-split_rest.checkpoint.now c.in-Some-split_rest.ensures

pub returns-in-None : goal.returns-in-None
returns-in-None c =
    file_lacks_rest c.args.front.now c.in-Some.rest.now c.in-Some.ensures (identity_value c.in-Some-2.identity) c.in-Some-2.rest.now
    (rw c.in-Some-2.is at c.in_ok-identity.ensures) c.in-None.ensures

pub returns-in_default : goal.returns-in_default
returns-in_default c = λ job fits same. front_lacks_first_line c.args.front.now c.in_default.ensures job same
