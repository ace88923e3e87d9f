pub mod Said
pub mod Captured
pub mod Adds
pub mod Finding
pub mod Free
pub mod Innermost
