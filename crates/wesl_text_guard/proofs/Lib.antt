pub mod Absorbed
pub mod Kept
pub mod Listed
pub mod Operands
pub mod Parts
pub mod Untouched
pub mod Whole
pub mod Texts
