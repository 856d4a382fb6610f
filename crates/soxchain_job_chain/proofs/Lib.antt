pub mod Converting
pub mod Frozen
pub mod Passing
pub mod SoundParts
