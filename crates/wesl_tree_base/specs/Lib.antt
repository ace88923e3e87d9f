pub mod Pieces
pub mod Borrowed
