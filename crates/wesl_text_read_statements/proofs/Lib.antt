pub mod Seen
pub mod Runs
pub mod Views
pub mod Bodies
pub mod Stated
pub mod ForLoop
pub mod Selectors
pub mod Along
