pub mod Respelled
pub mod Joined
pub mod Laws
