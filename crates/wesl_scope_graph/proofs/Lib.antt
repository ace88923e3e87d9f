pub mod Growing
pub mod Meeting
pub mod Reaching
