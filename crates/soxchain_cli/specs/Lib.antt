pub mod Heads
pub mod Named
pub mod SameFile
pub mod Working
