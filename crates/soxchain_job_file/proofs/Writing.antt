-- What a writer holds once it has taken the parts of a file.
use Rattle.std.proofs.Common.{◌≡◌, ℕ, List, ◌++◌, length, Option, Result, Ok, Err, OnOk, ap, subst, ◌∙◌}
use Rattle.std.proofs.KnownBytes.{Appends-trans}
use Rattle.std.specs.Io.KnownBytes.{Appends}
use Rattle.byteorder.specs.Endian.{little_bytes}
use Rattle.soxchain_xxh64.specs.Xxh64.{xxh64}
use Rattle.soxchain_job_file.specs.JobBytes.{JobValue, head_bytes, front_bytes, job_bytes, word_bytes}

pub file_written : {T E : Type 0} (result : Result T E) (old one two new : Option (List ℕ)) (job : JobValue) (head : List ℕ) (hash : ℕ)
    → head ≡ head_bytes job.identity job.runs (length job.checkpoint) → hash ≡ xxh64 (head ++ job.checkpoint)
    → Appends old one head → Appends one two job.checkpoint → OnOk result (Appends two new (little_bytes 8 hash)) → OnOk result (Appends old new (job_bytes job))
unfolding word_bytes front_bytes job_bytes
file_written (Err e) old one two new job head hash is sum first second third = tt
file_written (Ok t) old one two new job head hash is sum first second third =
    let front : head ++ job.checkpoint ≡ front_bytes job = ap (λ xs. xs ++ job.checkpoint) is in
    let all : (head ++ job.checkpoint) ++ little_bytes 8 hash ≡ job_bytes job =
    ap (λ xs. xs ++ little_bytes 8 hash) front ∙ ap (λ n. front_bytes job ++ little_bytes 8 n) (sum ∙ ap xxh64 front) in
    subst (Appends old new) all
    (Appends-trans old two new (head ++ job.checkpoint) (little_bytes 8 hash) (Appends-trans old one two head job.checkpoint first second) third)
