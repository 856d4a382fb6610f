pub mod Concluding
pub mod Converting
pub mod MessageWriterLemmas
