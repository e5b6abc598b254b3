-- Worked examples.
pub mod Calls
pub mod Moves
pub mod Pages
pub mod Refusals
pub mod Syncs
