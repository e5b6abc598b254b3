pub mod Commands
pub mod InTurn
pub mod Keeping
pub mod Links
pub mod Nodes
pub mod Sections
