pub mod Free
pub mod Gathered
pub mod Laws
pub mod Uses
