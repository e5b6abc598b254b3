pub mod Chains
pub mod Costs
pub mod Differing
pub mod EndRows
pub mod Ends
pub mod Listed
