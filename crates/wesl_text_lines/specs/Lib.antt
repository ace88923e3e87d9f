pub mod Lines
pub mod Starts
pub mod Steps
