pub mod Picked
pub mod Faith
pub mod Marked
pub mod Walked
pub mod Along
pub mod References
pub mod Directed
pub mod Verdict
pub mod Ended
pub mod Canonical
mod CanonicalNumbers
mod Fitting
pub mod Leaves
mod Numbered
mod Numbering
pub mod Taken
pub mod Units
