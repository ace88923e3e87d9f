pub mod Depths
pub mod Again
pub mod PlaceLemmas
pub mod UnitTextLemmas
