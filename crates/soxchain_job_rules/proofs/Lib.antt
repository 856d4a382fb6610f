pub mod Apart
pub mod Distinct
pub mod Naming
pub mod Paying
pub mod Slash
