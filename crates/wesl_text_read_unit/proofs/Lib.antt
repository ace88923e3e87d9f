pub mod Starts
pub mod Members
pub mod Functions
pub mod Wholes
pub mod Below
