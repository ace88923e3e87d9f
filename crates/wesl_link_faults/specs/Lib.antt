pub mod Opened
pub mod Loading
pub mod Opening
pub mod Laws
pub mod Worlds
