pub mod Units
pub mod Held
