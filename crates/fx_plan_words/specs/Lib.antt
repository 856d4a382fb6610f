pub mod Capped
pub mod Faults
pub mod Numbers
