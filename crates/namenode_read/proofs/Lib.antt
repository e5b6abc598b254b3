pub mod Chains
pub mod DirPaths
pub mod FirstReports
pub mod Places
pub mod Snapshots
pub mod Stats
