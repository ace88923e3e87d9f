pub mod Slashes
pub mod Parts
pub mod Closed
pub mod Directives
pub mod Imports
