pub mod Said
pub mod Linked
pub mod Bundles
pub mod Requests
pub mod Telling
