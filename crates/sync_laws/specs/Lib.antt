pub mod Lasting
pub mod Shown
