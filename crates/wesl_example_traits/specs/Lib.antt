pub mod Chosen
pub mod Hash
