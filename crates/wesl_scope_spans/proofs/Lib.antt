pub mod Steps
pub mod Plain
pub mod Either
pub mod Stepped
pub mod Counted
pub mod Innermost
pub mod Nowhere
