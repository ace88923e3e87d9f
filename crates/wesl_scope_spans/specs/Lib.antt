pub mod Spans
pub mod Adds
pub mod Extents
pub mod Laws
