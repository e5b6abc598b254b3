pub mod Chains
pub mod Asked
pub mod Contents
