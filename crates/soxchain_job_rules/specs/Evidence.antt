-- How a run starts, by what the checkpoint says and what the files are.
use Rattle.std.specs.Prelude.{◌≡◌, ◌≢◌, ◌⊎◌, ℕ, IsTrue, false}
use Rattle.soxchain_job_rules.specs.declared.evidence.Claim.TheVariants.{Nothing, InProgress, Complete}
use Rattle.soxchain_job_rules.specs.declared.evidence.Sighting.TheVariants.{Missing, Same, Different}
use Rattle.soxchain_job_rules.specs.declared.evidence.Evidence.{Evidence}
use Rattle.soxchain_job_rules.specs.declared.evidence.Start.{Start}
use Rattle.soxchain_job_rules.specs.declared.evidence.Start.TheVariants.{Anew, Continue, Publish, Finish}
use Rattle.soxchain_job_rules.specs.declared.evidence.StartRefusal.{StartRefusal}
use Rattle.soxchain_job_rules.specs.declared.evidence.StartRefusal.TheVariants.{PartWithoutCheckpoint, InputMissing, OtherPart, OtherJob, OtherInput, PartMissing, OtherOut}

-- there is no checkpoint, and no part that could be somebody's
pub record CanBegin (e : Evidence) : Type 0 where
  pub claim : e.claim ≡ Nothing
  pub part : e.part ≡ Missing

-- the checkpoint is of this job, and IN is the one that was read
pub record IsOfThisJob (e : Evidence) : Type 0 where
  pub claim : e.claim ≢ Nothing
  pub identity : IsTrue e.identity_is_same
  pub input : e.input ≡ Same

-- the part has what the checkpoint counts; where it counts nothing, the part may not have been made
pub record CanContinue (e : Evidence) : Type 0 where
  pub job : IsOfThisJob e
  pub claim : (written : ℕ) × (e.claim ≡ InProgress written) × ((e.part ≡ Same) ⊎ ((e.part ≡ Missing) × (written ≡ 0)))

-- the part is the complete output
pub record CanPublish (e : Evidence) : Type 0 where
  pub job : IsOfThisJob e
  pub claim : e.claim ≡ Complete
  pub part : e.part ≡ Same

-- OUT is the complete output already
pub record CanFinish (e : Evidence) : Type 0 where
  pub job : IsOfThisJob e
  pub claim : e.claim ≡ Complete
  pub part : e.part ≡ Missing
  pub out : e.out ≡ Same

-- `--abandon` removes files of the job alone, and then the job can begin: a checkpoint of a job is there, the part is that of the
-- checkpoint or is missing, and IN is there
pub record CanAbandon (e : Evidence) : Type 0 where
  pub claim : e.claim ≢ Nothing
  pub input : e.input ≢ Missing
  pub part : e.part ≢ Different

-- how a run may start
abbrev pub CanStart : Evidence → Start → Type 0
CanStart e Anew = CanBegin e
CanStart e Continue = CanContinue e
CanStart e Publish = CanPublish e
CanStart e Finish = CanFinish e

-- why a run does not start: of several causes the first in this order
abbrev pub IsCause : Evidence → StartRefusal → Type 0
IsCause e PartWithoutCheckpoint = (e.claim ≡ Nothing) × (e.part ≢ Missing)
IsCause e InputMissing = (e.claim ≢ Nothing) × (e.input ≡ Missing)
IsCause e OtherPart = (e.claim ≢ Nothing) × (e.input ≢ Missing) × (e.part ≡ Different)
IsCause e OtherJob = CanAbandon e × (e.identity_is_same ≡ false)
IsCause e OtherInput = CanAbandon e × IsTrue e.identity_is_same × (e.input ≡ Different)
IsCause e PartMissing = IsOfThisJob e × (e.part ≡ Missing) × ((e.claim ≢ Complete) ⊎ (e.out ≡ Missing)) × (e.claim ≢ InProgress 0)
IsCause e OtherOut = IsOfThisJob e × (e.claim ≡ Complete) × (e.part ≡ Missing) × (e.out ≡ Different)
