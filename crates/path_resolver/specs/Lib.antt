pub mod Above
pub mod ByRows
pub mod Live
pub mod Rising
pub mod Standing
