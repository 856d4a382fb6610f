use Rattle.std.proofs.Common.{◌≡◌, ◌∙◌, ap, sym, Err}
use Rattle.soxchain_job_file.specs.JobBytes.{FitsJob, front_bytes, job_value}
use Rattle.soxchain_job_file.proofs.Splitting.{job_bytes-injective, job_found, job_lacks_front, job_lacks_first_line, job_lacks_seal}
use Rattle.soxchain_job_file.proofs.Versions.{first_line_known}
use Rattle.soxchain_job_file.proofs.job_file.read_job_file.Goals as goal

pub returns-in_default-clause-read : goal.returns-in_default-clause-read
returns-in_default-clause-read c = λ job fits same. absurd (job_lacks_first_line c.args.bytes.now c.in_default.ensures job same)

pub returns-in_default-clause-version : goal.returns-in_default-clause-version
returns-in_default-clause-version c = λ version.
    let known = c.fault_of.ensures.version version in (λ same. known.0 (cc), λ other. ap Err (known.1 other))

pub returns-in_default-unseal-clause-read : goal.returns-in_default-unseal-clause-read
returns-in_default-unseal-clause-read c = λ job fits same. absurd (job_lacks_seal c.args.bytes.now c.in_default-unseal.ensures job same)

pub returns-in_default-unseal-clause-version : goal.returns-in_default-unseal-clause-version
returns-in_default-unseal-clause-version c = λ version.
    let known = first_line_known c.args.bytes.now c.in-Some.field-0.now c.in-Some.ensures in (λ same. absurd (cc), λ other. absurd (known.1 version other))

pub returns-in-Ok-Some-clause-ok : goal.returns-in-Ok-Some-clause-ok
returns-in-Ok-Some-clause-ok c =
    let known : FitsJob (job_value c.in-Ok-Some.file) × (c.in-Some-unseal.front.now ≡ front_bytes (job_value c.in-Ok-Some.file)) =
    rw c.in-Ok-Some.field-0-is at c.in-Ok-Some.ensures in
    job_found c.args.bytes.now c.in-Some-unseal.front.now (job_value c.in-Ok-Some.file) c.in-Some-unseal.ensures known.1

pub returns-in-Ok-Some-clause-read : goal.returns-in-Ok-Some-clause-read
returns-in-Ok-Some-clause-read c = λ job fits same.
    let file = job_value c.in-Ok-Some.file in
    let known : FitsJob file × (c.in-Some-unseal.front.now ≡ front_bytes file) = rw c.in-Ok-Some.field-0-is at c.in-Ok-Some.ensures in
    job_bytes-injective file job known.0 fits (sym (job_found c.args.bytes.now c.in-Some-unseal.front.now file c.in-Some-unseal.ensures known.1) ∙ same)

pub returns-in-Ok-Some-clause-version : goal.returns-in-Ok-Some-clause-version
returns-in-Ok-Some-clause-version c = λ version.
    let known = first_line_known c.args.bytes.now c.in-Some.field-0.now c.in-Some.ensures in (λ same. absurd (cc), λ other. absurd (known.1 version other))

pub returns-in-Ok-None-clause-read : goal.returns-in-Ok-None-clause-read
returns-in-Ok-None-clause-read c = let h = rw c.in-Ok-None.field-0-is at c.in-Ok-None.ensures in λ job fits same.
    absurd (job_lacks_front c.args.bytes.now c.in-Some-unseal.front.now c.in-Some-unseal.ensures h job fits same)

pub returns-in-Ok-None-clause-version : goal.returns-in-Ok-None-clause-version
returns-in-Ok-None-clause-version c = λ version.
    let known = first_line_known c.args.bytes.now c.in-Some.field-0.now c.in-Some.ensures in (λ same. absurd (cc), λ other. absurd (known.1 version other))

pub returns-in-Err-clause-version : goal.returns-in-Err-clause-version
returns-in-Err-clause-version c = λ version.
    let known = first_line_known c.args.bytes.now c.in-Some.field-0.now c.in-Some.ensures in (λ same. absurd (cc), λ other. absurd (known.1 version other))
