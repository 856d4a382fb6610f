-- What a part of a run begins with, and what it leaves.
use Rattle.std.specs.Prelude.{◌≡◌, ℕ, length, Result, OnOk}
use Rattle.soxchain_job.specs.Conversion.{ConversionModel}
use Rattle.soxchain_job.specs.Disk.{DiskModel, LeavesNow, LeavesOnly}
use Rattle.soxchain_job.specs.Input.{InputModel}
use Rattle.soxchain_job.specs.Job.{IsGrowing, IsLive, IsPublished, IsSafe, Job}
use Rattle.soxchain_job.specs.Known.{BothKnown}
use Rattle.soxchain_job.specs.declared.grow.Offsets.{Offsets}

-- at these offsets the conversion in memory agrees with the part
abbrev pub IsLiveAt : {C D : Type 0} → ConversionModel C → DiskModel D → Job C → C → Offsets → D → Type 0
IsLiveAt conversions disks job conversion offsets disk = IsLive conversions job conversion offsets.taken offsets.written (disks.seen disk)

-- the conversion in memory has taken all of the input, and agrees with the part
abbrev pub HasTakenAll : {C D : Type 0} → ConversionModel C → DiskModel D → Job C → C → D → Type 0
HasTakenAll conversions disks job conversion disk = (written : ℕ) × IsLive conversions job conversion (length job.input) written (disks.seen disk)

-- of a known disk and input: a crash now leaves a part that grows
abbrev pub GrowsNow : {C D I : Type 0} → ConversionModel C → DiskModel D → InputModel I → Job C → D → Type 0
GrowsNow conversions disks inputs job disk = BothKnown disks inputs → LeavesNow disks disk (IsGrowing conversions job)

-- of a known disk and input: a crash at any moment since `old` leaves a part that grows
abbrev pub GrowsOnly : {C D I : Type 0} → ConversionModel C → DiskModel D → InputModel I → Job C → D → D → Type 0
GrowsOnly conversions disks inputs job old new = BothKnown disks inputs → LeavesOnly disks old new (IsGrowing conversions job)

-- of a known disk and input: a crash at any moment since `old` leaves what may be found at any moment of a run
abbrev pub StaysSafe : {C D I : Type 0} → ConversionModel C → DiskModel D → InputModel I → Job C → D → D → Type 0
StaysSafe conversions disks inputs job old new = BothKnown disks inputs → LeavesOnly disks old new (IsSafe conversions job)

-- of a known disk and input: the output has its name after `Ok`
abbrev pub Publishes : {C D I T E : Type 0} → ConversionModel C → DiskModel D → InputModel I → Job C → D → Result T E → Type 0
Publishes conversions disks inputs job disk result = BothKnown disks inputs → OnOk result (IsPublished conversions disks job disk)

-- of a known disk and input: the conversion agrees with the part after `Ok`
abbrev pub StaysLive : {C D I T E : Type 0} → ConversionModel C → DiskModel D → InputModel I → Job C → C → Offsets → D → Result T E → Type 0
StaysLive conversions disks inputs job conversion offsets disk result = BothKnown disks inputs → OnOk result (IsLiveAt conversions disks job conversion offsets disk)

-- More of the input may be converted, and appended to the part.
pub record CanGrow {C D I : Type 0} (conversions : ConversionModel C) (disks : DiskModel D) (inputs : InputModel I) (job : Job C) (conversion : C) (disk : D) (source : I) (offsets : Offsets) : Type 0 where
  -- the input is that of the job
  pub input : inputs.known → inputs.content source ≡ job.input
  -- a crash now leaves a part that grows
  pub safe : GrowsNow conversions disks inputs job disk
  -- the conversion in memory agrees with the part
  pub live : BothKnown disks inputs → IsLiveAt conversions disks job conversion offsets disk
