pub mod Declarations
pub mod Imports
pub mod Units
