pub mod Ends
pub mod Explained
