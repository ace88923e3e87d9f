pub mod Leaves
pub mod FirstTokens
pub mod Reading
pub mod Rows
pub mod Laws
