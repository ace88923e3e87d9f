pub mod Starts
pub mod Words
pub mod Parts
pub mod Simple
