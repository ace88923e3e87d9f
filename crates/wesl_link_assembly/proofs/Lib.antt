mod Pathless
pub mod Renumbered
mod Numbering
mod Given
pub mod Replaced
mod Shortened
mod Whole
mod Denoted
mod Retold
pub mod SideBySide
mod Thinned
mod Words
mod OneMore
