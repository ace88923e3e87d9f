pub mod Builtins
pub mod Types
