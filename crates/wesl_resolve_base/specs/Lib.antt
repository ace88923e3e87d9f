pub mod Resolver
pub mod UnitText
pub mod Packages
pub mod Suffixes
pub mod Refusals
