pub mod Appending
pub mod Words
