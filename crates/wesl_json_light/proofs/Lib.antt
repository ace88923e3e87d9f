mod Light
pub mod Guards
pub mod Rows
pub mod Keys
pub mod Paths
pub mod Fitting
mod Spans
pub mod Back
pub mod Worded
pub mod Expressions
pub mod Attributes
pub mod Declarations
pub mod Statements
pub mod Modules
mod Held
mod Whole
mod Sorted
