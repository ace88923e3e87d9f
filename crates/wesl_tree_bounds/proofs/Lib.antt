pub mod Below
pub mod Views
