pub mod Prefixes
mod Views
mod Turns
mod Meetings
mod Dealing
mod Finishing
mod Again
pub mod Rows
pub mod Order
pub mod Numbers
