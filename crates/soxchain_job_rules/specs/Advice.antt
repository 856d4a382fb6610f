-- What helps where a run is refused.
use Rattle.soxchain_job_rules.specs.declared.advice.Advice.{Advice}
use Rattle.soxchain_job_rules.specs.declared.advice.Advice.TheVariants.{Abandon, MoveAway, Restore, None}
use Rattle.soxchain_job_rules.specs.declared.advice.Refusal.{Refusal}
use Rattle.soxchain_job_rules.specs.declared.advice.Refusal.TheVariants.{Clash, Standing, Start}
use Rattle.soxchain_job_rules.specs.declared.own_file.OwnFile.TheVariants.{Part}
use Rattle.soxchain_job_rules.specs.declared.evidence.StartRefusal.{StartRefusal}
use Rattle.soxchain_job_rules.specs.declared.evidence.StartRefusal.TheVariants.{PartWithoutCheckpoint, InputMissing, OtherPart, OtherJob, OtherInput, PartMissing, OtherOut}

-- What is not known to be the job's is moved away. Where nothing else is in the way, the job is abandoned.
abbrev pub start_advice : StartRefusal → Advice
start_advice PartWithoutCheckpoint = MoveAway Part
start_advice InputMissing = Restore
start_advice OtherPart = MoveAway Part
start_advice OtherJob = Abandon
start_advice OtherInput = Abandon
start_advice PartMissing = Abandon
start_advice OtherOut = Abandon

-- A clash needs another name.
abbrev pub advice_of : Refusal → Advice
advice_of (Clash clash) = None
advice_of (Standing file) = MoveAway file
advice_of (Start refusal) = start_advice refusal
