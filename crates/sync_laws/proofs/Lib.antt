pub mod Spans
pub mod Snapshots
pub mod RootPaths
pub mod RootsStay
pub mod Shown
pub mod Gone
pub mod Untouched
pub mod Taken
