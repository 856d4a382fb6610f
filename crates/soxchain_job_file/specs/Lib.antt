pub mod Differences
pub mod JobBytes
pub mod Splits
pub mod Versions
