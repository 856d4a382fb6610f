-- Whether it is known what a job reads.
use Rattle.soxchain_job.specs.Disk.{DiskModel}
use Rattle.soxchain_job.specs.Input.{InputModel}

-- what the disk holds is known, and the bytes of the input
abbrev pub BothKnown : {D I : Type 0} → DiskModel D → InputModel I → Type 0
BothKnown disk input = disk.known × input.known
