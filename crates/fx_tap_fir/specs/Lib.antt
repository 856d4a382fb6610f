-- Written by scripts/effects from effects/*.toml. Do not edit.
-- Each file of this folder is a module.
pub mod Fir
pub mod FirState
pub mod FirWords
pub mod Rounds
pub mod Split
