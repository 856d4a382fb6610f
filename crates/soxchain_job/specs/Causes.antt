-- Why a run, or a part of one, fails.
use Rattle.std.specs.Prelude.{◌≤◌, ◌<◌, ◌^◌, length, Result, IsErrOf}
use Rattle.soxchain_job.specs.Conversion.{ConversionModel}
use Rattle.soxchain_job.specs.Disk.{DiskModel}
use Rattle.soxchain_job.specs.Input.{InputModel}
use Rattle.soxchain_job.specs.Job.{Job, whole_output}
use Rattle.soxchain_job.specs.Known.{BothKnown}
use Rattle.soxchain_job.specs.declared.fault.Fault.{Fault}
use Rattle.soxchain_job.specs.declared.fault.Fault.TheVariants as Faults

-- It says that the disk failed, or the input, only where the count of its faults rose.
pub record CountsAllFaults {D I T : Type 0} (disks : DiskModel D) (inputs : InputModel I) (disk disk' : D) (input input' : I) (result : Result T Fault) : Type 0 where
  pub faults : disks.faults disk ≤ disks.faults disk'
  pub failed : IsErrOf result Faults.Disk → disks.faults disk < disks.faults disk'
  pub failures : inputs.failures input ≤ inputs.failures input'
  pub unread : IsErrOf result Faults.Input → inputs.failures input < inputs.failures input'

-- The same of a part that reads no input and converts no piece.
pub record CountsDiskFaults {D T : Type 0} (disks : DiskModel D) (disk disk' : D) (result : Result T Fault) : Type 0 where
  pub faults : disks.faults disk ≤ disks.faults disk'
  pub failed : IsErrOf result Faults.Disk → disks.faults disk < disks.faults disk'
  pub unread : IsErrOf result Faults.Input → ⊥
  pub too_long : IsErrOf result Faults.TooLong → ⊥

-- it does not say that the checkpoint is damaged
abbrev pub RefusesNoCheckpoint : {T : Type 0} → Result T Fault → Type 0
RefusesNoCheckpoint result = IsErrOf result Faults.BadCheckpoint → ⊥

-- Why a part that converts pieces fails.
pub record HasPieceCause {C D I T : Type 0} (conversions : ConversionModel C) (disks : DiskModel D) (inputs : InputModel I) (job : Job C) (disk disk' : D) (input input' : I) (result : Result T Fault) : Type 0 where
  -- it reads no checkpoint
  pub readable : RefusesNoCheckpoint result
  -- the output is too long only where it has 2^64 bytes or more
  pub too_long : BothKnown disks inputs → IsErrOf result Faults.TooLong → 2 ^ 64 ≤ length (whole_output conversions job)
  -- the disk, or the input, failed only where it counted that
  pub counts : CountsAllFaults disks inputs disk disk' input input' result

-- Why a part that writes a checkpoint fails.
pub record HasWriteCause {D T : Type 0} (disks : DiskModel D) (disk disk' : D) (result : Result T Fault) : Type 0 where
  -- it reads no checkpoint
  pub readable : RefusesNoCheckpoint result
  -- it does not say that the input has changed
  pub changed : IsErrOf result Faults.InputChanged → ⊥
  -- the disk failed only where it counted that
  pub counts : CountsDiskFaults disks disk disk' result

-- Why a part that ends a job fails.
pub record HasEndCause {D I T : Type 0} (disks : DiskModel D) (inputs : InputModel I) (disk disk' : D) (input input' : I) (result : Result T Fault) : Type 0 where
  -- it reads no checkpoint
  pub readable : RefusesNoCheckpoint result
  -- it makes no output longer
  pub too_long : IsErrOf result Faults.TooLong → ⊥
  -- the disk, or the input, failed only where it counted that
  pub counts : CountsAllFaults disks inputs disk disk' input input' result
