pub mod Directives
pub mod Imports
pub mod Printed
pub mod Texts
pub mod Writing
