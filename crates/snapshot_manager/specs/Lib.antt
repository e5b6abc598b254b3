pub mod Inside
pub mod LookUps
pub mod Members
pub mod Owners
pub mod Places
pub mod Snapshots
