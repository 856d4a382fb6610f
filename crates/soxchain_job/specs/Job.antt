-- What may be found on the disk at each moment of each run of a job.
use Rattle.std.specs.Prelude.{ℕ, ◌≡◌, ◌⊎◌, ◌≤◌, ◌<◌, ◌^◌, List, ◌++◌, Option, Some, None, length, take, drop}
use Rattle.soxchain_job.specs.Checkpoint.{complete_bytes, in_progress_bytes}
use Rattle.soxchain_job.specs.Conversion.{ConversionModel}
use Rattle.soxchain_job.specs.Disk.{DiskModel, Durable, LeavesNow}
use Rattle.soxchain_job.specs.declared.disk.FileName.TheVariants.{Out}
use Rattle.soxchain_job.specs.Image.{Image, contents_of}

-- a job: a new conversion, the input, and the file that had the name of the output before the first run; each checkpoint that may
-- be found has taken at least `reached` bytes of the input
pub record Job (C : Type 0) : Type 0 where
  pub start : C
  pub input : List ℕ
  pub before : Option (List ℕ)
  pub reached : ℕ

-- the whole output
abbrev pub whole_output : {C : Type 0} → ConversionModel C → Job C → List ℕ
whole_output conversions job = conversions.remaining job.start job.input

-- the file that has the name of the output before the first run, and the one that is to have it
pub record Target : Type 0 where
  pub before : Option (List ℕ)
  pub output : List ℕ

abbrev pub target_of : {C : Type 0} → ConversionModel C → Job C → Target
target_of conversions job = record { before = job.before; output = whole_output conversions job }

-- the name of the output has the file from before, or the complete output
abbrev pub OldOrComplete : Target → Option (List ℕ) → Type 0
OldOrComplete target out = (out ≡ target.before) ⊎ (out ≡ Some target.output)

-- A checkpoint agrees with the part: the part begins with what was written, and the frozen conversion writes the rest of the
-- output from the rest of the input.
pub record IsConsistent {C : Type 0} (conversions : ConversionModel C) (job : Job C) (checkpoint part : List ℕ) : Type 0 where
  pub taken : ℕ
  pub written : ℕ
  pub conversion : C
  pub frozen : List ℕ
  pub bytes : checkpoint ≡ in_progress_bytes taken written frozen
  pub taken_fits : taken < 2 ^ 64
  pub written_fits : written < 2 ^ 64
  pub freezes : conversions.frozen_as conversion frozen
  pub same_plan : conversions.plan conversion ≡ conversions.plan job.start
  pub reached : job.reached ≤ taken
  pub within : taken ≤ length job.input
  pub present : written ≤ length part
  pub front : whole_output conversions job ≡ take written part ++ conversions.remaining conversion (drop taken job.input)

-- the job has not begun and there is no checkpoint, or the checkpoint agrees with the part
abbrev pub NoneOrConsistent : {C : Type 0} → ConversionModel C → Job C → Option (List ℕ) → List ℕ → Type 0
NoneOrConsistent conversions job None part = job.reached ≡ 0
NoneOrConsistent conversions job (Some bytes) part = IsConsistent conversions job bytes part

-- the part grows
pub record IsGrowing {C : Type 0} (conversions : ConversionModel C) (job : Job C) (c : Image) : Type 0 where
  pub out : OldOrComplete (target_of conversions job) c.out
  pub checkpoint : NoneOrConsistent conversions job c.checkpoint (contents_of c.part)

-- the checkpoint says that the output is complete, with what is recorded of a conversion
pub record SaysComplete {C : Type 0} (conversions : ConversionModel C) (checkpoint : Option (List ℕ)) : Type 0 where
  pub conversion : C
  pub summary : List ℕ
  pub summarised : conversions.summarised conversion summary
  pub bytes : checkpoint ≡ Some (complete_bytes summary)

-- the output is complete: it is the part, or has its own name already
pub record IsReady {C : Type 0} (conversions : ConversionModel C) (job : Job C) (c : Image) : Type 0 where
  pub out : OldOrComplete (target_of conversions job) c.out
  pub checkpoint : SaysComplete conversions c.checkpoint
  pub part : (c.part ≡ Some (whole_output conversions job)) ⊎ ((c.part ≡ None) × (c.out ≡ Some (whole_output conversions job)))

-- the output has its name, and the checkpoint is removed
pub record HasEnded {C : Type 0} (conversions : ConversionModel C) (job : Job C) (c : Image) : Type 0 where
  pub out : c.out ≡ Some (whole_output conversions job)
  pub checkpoint : c.checkpoint ≡ None

-- a run may continue from here
abbrev pub IsRecoverable : {C : Type 0} → ConversionModel C → Job C → Image → Type 0
IsRecoverable conversions job c = IsGrowing conversions job c ⊎ IsReady conversions job c

-- this may be found at any moment of a run
abbrev pub IsSafe : {C : Type 0} → ConversionModel C → Job C → Image → Type 0
IsSafe conversions job c = IsRecoverable conversions job c ⊎ HasEnded conversions job c

-- the conversion in memory agrees with the part that is seen
pub record IsLive {C : Type 0} (conversions : ConversionModel C) (job : Job C) (conversion : C) (taken written : ℕ) (seen : Image) : Type 0 where
  pub same_plan : conversions.plan conversion ≡ conversions.plan job.start
  pub reached : job.reached ≤ taken
  pub within : taken ≤ length job.input
  pub size : length (contents_of seen.part) ≡ written
  pub front : whole_output conversions job ≡ contents_of seen.part ++ conversions.remaining conversion (drop taken job.input)

-- A checkpoint replaces another: the old one or the new one is there, and other files are the same.
pub record Saved (bytes : List ℕ) (d c : Image) : Type 0 where
  pub part : c.part ≡ d.part
  pub out : c.out ≡ d.out
  pub checkpoint : (c.checkpoint ≡ d.checkpoint) ⊎ (c.checkpoint ≡ Some bytes)

-- ... of what might have been found before
abbrev pub Saving : (Image → Type 0) → List ℕ → Image → Type 0
Saving outcomes bytes c = (d : Image) × outcomes d × Saved bytes d c

-- the output has its name, durably, and no checkpoint is seen
pub record IsPublished {C D : Type 0} (conversions : ConversionModel C) (disks : DiskModel D) (job : Job C) (disk : D) : Type 0 where
  pub out : (disks.seen disk).out ≡ Some (whole_output conversions job)
  pub durable : Durable Out (disks.seen disk) (disks.may_leave disk)
  pub removed : (disks.seen disk).checkpoint ≡ None

-- The first run of a job begins: there is no checkpoint, and the name of the output has the file from before.
pub record IsBeforeFirstRun {C D : Type 0} (disks : DiskModel D) (job : Job C) (disk : D) : Type 0 where
  -- no checkpoint has taken anything
  pub reached : job.reached ≡ 0
  -- the program begins at this moment
  pub begins : disks.began disk ≡ disks.moment disk
  -- a crash now leaves no checkpoint, and the file from before
  pub none : LeavesNow disks disk (λ c. (c.checkpoint ≡ None) × (c.out ≡ job.before))
