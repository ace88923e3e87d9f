pub mod Bits
pub mod Words
pub mod Kept
pub mod Rows
pub mod Equality
