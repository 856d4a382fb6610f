-- What may stand under the name of a file of a job, and what `--abandon` removes.
use Rattle.std.specs.Prelude.{◌≡◌, ◌≢◌, ◌⊎◌, ⊤, ℕ, Bool, IsTrue}
use Rattle.soxchain_job_rules.specs.declared.own_file.OwnFile.{OwnFile}
use Rattle.soxchain_job_rules.specs.declared.own_file.OwnFile.TheVariants.{Out, Part, Checkpoint, NewCheckpoint, Lock, Record, NewRecord}
use Rattle.soxchain_job_rules.specs.declared.standing.Content.{Content}
use Rattle.soxchain_job_rules.specs.declared.standing.Content.TheVariants.{Empty, Own, Foreign}
use Rattle.soxchain_job_rules.specs.declared.standing.Standing.{Standing}
use Rattle.soxchain_job_rules.specs.declared.standing.Standing.TheVariants.{Nothing, Regular, Other}

-- A run writes into the file of one name, so it has no other name; and its bytes are those of a job, or a checkpoint says
-- that they may be anything. The part is compared with its digest. OUT and the record are replaced as a whole.
abbrev pub MayUseRegular : OwnFile → ℕ → Content → Bool → Type 0
MayUseRegular Out links content has_checkpoint = ⊤
MayUseRegular Part links content has_checkpoint = (links ≡ 1) × IsTrue has_checkpoint
MayUseRegular Checkpoint links content has_checkpoint = (links ≡ 1) × (content ≡ Own)
MayUseRegular NewCheckpoint links content has_checkpoint = (links ≡ 1) × ((content ≢ Foreign) ⊎ IsTrue has_checkpoint)
MayUseRegular Lock links content has_checkpoint = (links ≡ 1) × (content ≡ Empty)
MayUseRegular Record links content has_checkpoint = content ≡ Own
MayUseRegular NewRecord links content has_checkpoint = (links ≡ 1) × ((content ≢ Foreign) ⊎ IsTrue has_checkpoint)

-- a run may use the name for this file: nothing stands there, or a regular file of which that is true
abbrev pub MayUse : OwnFile → Standing → Bool → Type 0
MayUse file Nothing has_checkpoint = ⊤
MayUse file (Regular links content) has_checkpoint = MayUseRegular file links content has_checkpoint
MayUse file Other has_checkpoint = ⊥

-- a regular file that is the job's: the checkpoint by its own bytes, and what a run grows or writes by a checkpoint of a job
abbrev pub MayRemoveRegular : OwnFile → ℕ → Content → Bool → Type 0
MayRemoveRegular Out links content has_checkpoint = ⊥
MayRemoveRegular Part links content has_checkpoint = IsTrue has_checkpoint
MayRemoveRegular Checkpoint links content has_checkpoint = content ≡ Own
MayRemoveRegular NewCheckpoint links content has_checkpoint = IsTrue has_checkpoint
MayRemoveRegular Lock links content has_checkpoint = MayUseRegular Lock links content has_checkpoint
MayRemoveRegular Record links content has_checkpoint = ⊥
MayRemoveRegular NewRecord links content has_checkpoint = IsTrue has_checkpoint

-- `--abandon` may remove what stands under the name of this file
abbrev pub MayRemove : OwnFile → Standing → Bool → Type 0
MayRemove file Nothing has_checkpoint = ⊥
MayRemove file (Regular links content) has_checkpoint = MayRemoveRegular file links content has_checkpoint
MayRemove file Other has_checkpoint = ⊥
