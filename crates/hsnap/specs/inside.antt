-- Definitions that serve proofs.
pub mod ClapRows
