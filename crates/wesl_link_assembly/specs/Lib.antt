pub mod Pathless
pub mod Denotations
pub mod Linked
pub mod Views
pub mod Directives
pub mod Thinning
pub mod Laws
