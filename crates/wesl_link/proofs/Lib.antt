pub mod Along
pub mod Recorded
