-- Written by scripts/effects from effects/*.toml. Do not edit.
-- Each file of this folder is a module.
pub mod DelayPieces
pub mod Delaying
pub mod EchoLaws
pub mod EchoPieces
pub mod EchoWeights
pub mod EchoWords
pub mod EchosBlocks
pub mod EchosGiven
pub mod EchosGroups
pub mod EchosLaws
pub mod EchosMeaning
pub mod EchosPieces
pub mod EchosSeries
pub mod EchosStored
pub mod EchosThawed
pub mod Groups
pub mod MaxDelay
pub mod OneEcho
pub mod SumPieces
