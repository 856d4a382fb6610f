-- Written by scripts/effects from effects/*.toml. Do not edit.
-- Each file of this folder is a module.
pub mod Around
pub mod Channels
pub mod DcShift
pub mod DcShiftState
pub mod DcShiftWords
pub mod Fractions
pub mod InSpecs
pub mod Mapped
pub mod Mix
pub mod PerSample
pub mod PerSampleState
pub mod Remix
pub mod RemixState
pub mod RemixWords
pub mod Vol
pub mod VolState
pub mod VolWords
