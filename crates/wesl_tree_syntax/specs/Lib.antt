pub mod Tree
pub mod View
pub mod Nodes
pub mod Unit
pub mod Shown
pub mod Kinds
pub mod Numbers
