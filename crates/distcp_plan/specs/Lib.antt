pub mod Planned
pub mod Limits
pub mod Laws
pub mod inside
