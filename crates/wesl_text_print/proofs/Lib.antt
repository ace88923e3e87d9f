pub mod Adding
pub mod Views
pub mod Lists
pub mod Expressions
pub mod Paths
