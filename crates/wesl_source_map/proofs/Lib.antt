pub mod Questions
pub mod Starting
