pub mod Holding
pub mod Adding
pub mod Passing
pub mod Ending
pub mod Placing
pub mod Taking
