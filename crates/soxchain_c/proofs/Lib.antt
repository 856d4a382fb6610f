pub mod Conversions
pub mod Faults
pub mod FirstPieces
pub mod Standing
pub mod Steps
pub mod MessageWriter
pub mod Values
