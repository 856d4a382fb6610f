pub mod CodedChain
pub mod FrozenConversion
pub mod JobOutput
