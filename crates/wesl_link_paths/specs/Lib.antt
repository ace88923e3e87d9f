pub mod Longer
pub mod Nodes
pub mod NumbersView
pub mod TextsView
