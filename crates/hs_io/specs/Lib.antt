pub mod Bytes
pub mod Errors
pub mod Lost
pub mod Memory
pub mod Standard
