pub mod Askers
pub mod Flaws
pub mod Ends
pub mod Keys
pub mod Searching
pub mod Taking
pub mod Found
