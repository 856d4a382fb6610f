pub mod Bounds
pub mod Effects
pub mod Meanings
pub mod Registry
pub mod Determined
