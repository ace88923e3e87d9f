pub mod Building
pub mod Holds
