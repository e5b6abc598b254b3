pub mod Calling
pub mod Replies
mod Paging
mod CopyCalls
mod CopyPages
mod CopyFronts
