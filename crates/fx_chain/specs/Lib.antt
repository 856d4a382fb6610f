pub mod Chain
pub mod Feeding
pub mod Snapshot
pub mod Theorem
