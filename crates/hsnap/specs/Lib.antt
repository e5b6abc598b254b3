pub mod CommandLine
pub mod inside
pub mod ReadStatus
pub mod Serial
