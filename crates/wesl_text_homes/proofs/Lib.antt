pub mod Searches
pub mod Settled
