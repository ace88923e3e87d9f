pub mod Good
pub mod Needed
pub mod Shaped
pub mod Modules
pub mod Linked
