pub mod Kept
pub mod Listed
pub mod Parts
pub mod Texts
pub mod Views
