pub mod Labels
pub mod Steps
pub mod Words
pub mod Expressions
pub mod Parts
pub mod Statements
pub mod Roots
pub mod Units
