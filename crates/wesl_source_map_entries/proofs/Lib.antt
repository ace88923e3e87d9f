pub mod Seen
pub mod Items
pub mod Sources
