-- Definitions that serve proofs.
pub mod Asking
