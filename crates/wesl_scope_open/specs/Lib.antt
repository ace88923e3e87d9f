pub mod Scopes
pub mod Open
pub mod Table
pub mod Named
pub mod Matched
pub mod Told
pub mod Laws
