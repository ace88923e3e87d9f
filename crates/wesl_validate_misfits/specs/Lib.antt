pub mod Laws
pub mod Placed
