pub mod Once
pub mod Gathering
pub mod Told
pub mod Passing
pub mod Placed
pub mod Used
