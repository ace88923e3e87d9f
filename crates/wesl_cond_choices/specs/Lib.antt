pub mod Places
pub mod Choices
pub mod Alive
pub mod Rows
pub mod Equality
