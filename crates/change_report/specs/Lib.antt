pub mod Between
pub mod Candidates
pub mod Found
pub mod LineKinds
pub mod Looked
pub mod Sorting
