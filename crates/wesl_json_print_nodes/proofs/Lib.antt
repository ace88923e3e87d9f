pub mod Adding
pub mod Parts
pub mod Lists
pub mod Expressions
pub mod Statements
pub mod Declarations
pub mod Attributes
