pub mod Edges
pub mod HandedOn
pub mod Walked
