pub mod Held
pub mod Listed
pub mod Records
pub mod Tables
