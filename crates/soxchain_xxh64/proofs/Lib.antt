pub mod Fronts
pub mod Stripes
pub mod Taking
pub mod Updating
