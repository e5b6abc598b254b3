pub mod Alone
mod Asked
mod Faultless
mod Calls
mod Passing
mod Rows
