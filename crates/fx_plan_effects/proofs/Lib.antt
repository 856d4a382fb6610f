pub mod Lasting
pub mod Registered
