pub mod ByRows
pub mod Directories
pub mod Places
