pub mod Passes
pub mod Changing
