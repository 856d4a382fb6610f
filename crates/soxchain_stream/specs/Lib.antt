pub mod Appended
pub mod Frozen
pub mod Snapshots
pub mod Streams
