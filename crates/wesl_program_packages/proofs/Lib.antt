mod Added
mod Ways
mod ByName
