pub mod Replaced
pub mod Went
pub mod Holders
