pub mod Clashes
pub mod Sightings
pub mod ByMeaning
pub mod Finding
pub mod Laws
