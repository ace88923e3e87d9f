pub mod Members
pub mod Texts
