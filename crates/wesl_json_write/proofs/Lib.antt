pub mod Builder
pub mod Built
pub mod Ended
