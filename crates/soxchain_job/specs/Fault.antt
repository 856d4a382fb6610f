-- The faults of a disk, an input and a conversion as faults of a run.
use Rattle.soxchain_job.specs.declared.disk.DiskFault.{DiskFault}
use Rattle.soxchain_job.specs.declared.disk.DiskFault.TheVariants as DiskFaults
use Rattle.soxchain_job.specs.declared.input.InputFault.{InputFault}
use Rattle.soxchain_job.specs.declared.input.InputFault.TheVariants as InputFaults
use Rattle.soxchain_job.specs.declared.conversion.ConversionFault.{ConversionFault}
use Rattle.soxchain_job.specs.declared.conversion.ConversionFault.TheVariants as ConversionFaults
use Rattle.soxchain_job.specs.declared.conversion.ThawFault.{ThawFault}
use Rattle.soxchain_job.specs.declared.conversion.ThawFault.TheVariants as ThawFaults
use Rattle.soxchain_job.specs.declared.fault.Fault.{Fault}
use Rattle.soxchain_job.specs.declared.fault.Fault.TheVariants as Faults

abbrev pub run_fault : DiskFault → Fault
run_fault DiskFaults.Memory = Faults.Memory
run_fault DiskFaults.Failed = Faults.Disk

abbrev pub read_fault : InputFault → Fault
read_fault InputFaults.Memory = Faults.Memory
read_fault InputFaults.Failed = Faults.Input
read_fault InputFaults.Changed = Faults.InputChanged

abbrev pub convert_fault : ConversionFault → Fault
convert_fault ConversionFaults.Memory = Faults.Memory
convert_fault ConversionFaults.InputChanged = Faults.InputChanged

abbrev pub resume_fault : ThawFault → Fault
resume_fault ThawFaults.Memory = Faults.Memory
resume_fault ThawFaults.BadSnapshot = Faults.BadCheckpoint
