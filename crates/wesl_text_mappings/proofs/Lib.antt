pub mod Behind
pub mod Digits
