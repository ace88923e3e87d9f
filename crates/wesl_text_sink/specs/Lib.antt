pub mod Filling
pub mod Finished
pub mod Laws
pub mod Layout
pub mod Touching
pub mod Words
