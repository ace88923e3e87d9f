pub mod EntryPoints
mod LeastSet
pub mod Stripping
pub mod Faithless
