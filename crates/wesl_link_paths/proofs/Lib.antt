pub mod Lists
pub mod Slashes
pub mod Nodes
pub mod Putting
pub mod Ways
pub mod Joined
