pub mod Asked
pub mod Named
pub mod Texts
pub mod Undefined
