-- Written by scripts/effects from effects/*.toml. Do not edit.
-- Each file of this folder is a module.
pub mod Ceil
pub mod Downsample
pub mod DownsampleState
pub mod Factor
pub mod FactorWords
pub mod Fade
pub mod FadeDetermined
pub mod FadeExtents
pub mod FadeState
pub mod FadeWords
pub mod Pad
pub mod PadExtents
pub mod PadState
pub mod PadWords
pub mod Picked
pub mod Ranges
pub mod Selected
pub mod Strides
pub mod Trim
pub mod TrimDetermined
pub mod TrimLaws
pub mod TrimState
pub mod TrimWords
pub mod Upsample
pub mod UpsampleState
