pub mod Declarations
pub mod Marks
pub mod Sets
pub mod Steps
pub mod Forests
