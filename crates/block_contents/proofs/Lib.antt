pub mod Adding
pub mod Filling
pub mod Making
pub mod Parts
pub mod Told
pub mod Whole
