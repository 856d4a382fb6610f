pub mod Made
pub mod Padded
pub mod Registered
