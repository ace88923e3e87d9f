pub mod Texts
pub mod Pieces
pub mod Runs
pub mod Supers
