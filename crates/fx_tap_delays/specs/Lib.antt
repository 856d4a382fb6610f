-- Written by scripts/effects from effects/*.toml. Do not edit.
-- Each file of this folder is a module.
pub mod Delay
pub mod DelayExtents
pub mod DelayState
pub mod DelayWords
pub mod Echo
pub mod EchoState
pub mod EchoWeights
pub mod EchoWords
pub mod Echos
pub mod EchosState
pub mod EchosStored
pub mod Near
pub mod Sums
pub mod Tapping
pub mod Texts
