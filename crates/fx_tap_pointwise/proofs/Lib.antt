-- Written by scripts/effects from effects/*.toml. Do not edit.
-- Each file of this folder is a module.
pub mod Blocks
pub mod BothLaws
pub mod Fractions
pub mod GroupLaws
pub mod InSpecs
pub mod Limiting
pub mod MapLaws
pub mod MixLaws
pub mod MixPieces
pub mod ProperRounding
pub mod RemixParts
pub mod RemixWords
pub mod Shifting
