-- Written by scripts/effects from effects/*.toml. Do not edit.
-- Each file of this folder is a module.
pub mod FirBlocks
pub mod FirLaws
pub mod SplitLaws
pub mod WindowSums
