pub mod Different
pub mod Interning
