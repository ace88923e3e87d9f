pub mod Groups
pub mod Same
pub mod Tables
