pub mod Blocks
pub mod Draining
pub mod Passing
pub mod Reaching
pub mod Running
pub mod Sending
pub mod Waiting
