pub mod Told
pub mod Steps
pub mod Synced
pub mod Promise
pub mod Calls
pub mod Around
pub mod inside
