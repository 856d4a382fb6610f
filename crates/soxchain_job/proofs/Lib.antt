pub mod Calls
pub mod Ending
pub mod Growing
pub mod Leaving
pub mod MemoryHistory
pub mod Pieces
pub mod Sequences
