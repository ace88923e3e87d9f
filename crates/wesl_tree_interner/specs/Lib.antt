pub mod Different
pub mod Interned
pub mod Interning
