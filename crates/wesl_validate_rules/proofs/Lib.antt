pub mod Faults
pub mod Finding
pub mod Gathering
pub mod Graphs
pub mod Stepping
pub mod Turns
pub mod Twice
