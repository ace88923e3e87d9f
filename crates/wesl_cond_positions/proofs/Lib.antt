pub mod Numbers
pub mod Fields
pub mod Nodes
pub mod Spelled
