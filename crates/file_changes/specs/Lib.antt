pub mod History
pub mod View
pub mod Inside
