-- Definitions that serve proofs alone.
pub mod Leads
pub mod Keyed
pub mod Texts
