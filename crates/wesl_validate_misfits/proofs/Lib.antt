pub mod Gathered
pub mod Renumbered
pub mod Same
