pub mod Links
pub mod Made
pub mod Paging
pub mod Contents
pub mod inside
