-- How messages name the files of a job.
use Rattle.std.specs.Prelude.{ℕ, List, codes}
use Rattle.soxchain_job_rules.specs.declared.own_file.OwnFile.{OwnFile}
use Rattle.soxchain_job_rules.specs.declared.own_file.OwnFile.TheVariants.{Out, Part, Checkpoint, NewCheckpoint, Lock, Record, NewRecord}

abbrev pub label_of : OwnFile → List ℕ
label_of Out = codes "OUT"
label_of Part = codes "OUT.part"
label_of Checkpoint = codes "OUT.job"
label_of NewCheckpoint = codes "OUT.job.new"
label_of Lock = codes "OUT.job.lock"
label_of Record = codes "the record"
label_of NewRecord = codes "the record with .new after it"
