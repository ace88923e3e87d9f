pub mod Copied
pub mod Renumbered
