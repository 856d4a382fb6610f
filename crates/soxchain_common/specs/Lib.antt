pub mod About
pub mod Consoles
pub mod Effects
pub mod Files
pub mod SameFile
