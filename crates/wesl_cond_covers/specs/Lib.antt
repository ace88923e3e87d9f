pub mod Unseen
pub mod LevelView
pub mod CoversView
pub mod Sight
pub mod SightsView
