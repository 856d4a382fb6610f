pub mod ManyFrames
pub mod Parts
pub mod RingLaws
