pub mod Calls
pub mod Copying
pub mod CopyLaws
pub mod inside
