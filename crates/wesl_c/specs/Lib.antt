pub mod Answers
pub mod Version
