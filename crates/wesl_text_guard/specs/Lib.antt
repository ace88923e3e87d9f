pub mod Parentheses
pub mod Enclosing
pub mod Guards
pub mod Units
pub mod Laws
