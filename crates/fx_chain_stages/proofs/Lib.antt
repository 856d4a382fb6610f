pub mod Joining
pub mod Making
pub mod Planned
pub mod Registered
pub mod StageLaws
pub mod Thawing
