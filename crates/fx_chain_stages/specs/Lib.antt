pub mod Looks
pub mod Made
pub mod Narrow
pub mod Registry
pub mod Stages
pub mod Thawed
