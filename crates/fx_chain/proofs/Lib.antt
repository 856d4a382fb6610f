pub mod Chaining
pub mod Constants
pub mod Stating
pub mod Thawing
