pub mod Behind
pub mod Chains
pub mod Cursors
pub mod Ends
pub mod InTurn
pub mod Items
pub mod Trees
