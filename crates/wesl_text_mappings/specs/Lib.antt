pub mod Positions
pub mod Vlq
