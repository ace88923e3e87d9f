pub mod Respelled
pub mod Steps
pub mod WorkedRows
