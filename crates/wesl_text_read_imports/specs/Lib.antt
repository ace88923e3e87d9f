pub mod Slashes
pub mod Closed
pub mod Nodes
pub mod Directives
