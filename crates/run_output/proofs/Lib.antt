pub mod Joined
pub mod TextModes
