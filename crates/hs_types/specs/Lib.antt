pub mod Blocks
pub mod Faults
pub mod Limits
pub mod Names
pub mod Paths
pub mod Refusals
