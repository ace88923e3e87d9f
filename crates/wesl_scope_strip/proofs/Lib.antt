pub mod Marking
pub mod Stepping
pub mod Reaching
pub mod Keeping
mod Sets
