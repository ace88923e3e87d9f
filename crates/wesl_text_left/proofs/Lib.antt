pub mod Plain
pub mod Fine
pub mod Read
pub mod Formulas
pub mod Marks
pub mod Following
pub mod Begins
pub mod Judged
