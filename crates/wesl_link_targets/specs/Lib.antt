pub mod Sought
pub mod TargetsView
