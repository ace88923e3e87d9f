pub mod Answers
pub mod Switch
pub mod Features
pub mod Branch
