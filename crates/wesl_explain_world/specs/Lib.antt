pub mod Why
pub mod Explained
