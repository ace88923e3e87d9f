pub mod Named
pub mod Members
pub mod Cases
pub mod Views
pub mod Spaces
pub mod Boxes
