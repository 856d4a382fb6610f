pub mod Hashing
pub mod IsHashOf
pub mod Xxh64
