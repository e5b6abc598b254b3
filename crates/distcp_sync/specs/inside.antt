-- Definitions that serve proofs and private contracts alone.
pub mod Trace
pub mod Queue
pub mod Runs
pub mod Tried
pub mod Ran
pub mod Begins
pub mod Pages
pub mod Fetching
