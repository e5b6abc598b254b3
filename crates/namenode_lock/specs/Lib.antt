pub mod NodeLinks
pub mod StaysLaws
pub mod Held
pub mod Passes
