pub mod Reasons
pub mod Laws
pub mod Found
pub mod Searching
