pub mod Comparing
pub mod Splitting
pub mod Versions
pub mod Writing
