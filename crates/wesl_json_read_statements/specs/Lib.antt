pub mod Forms
pub mod Views
pub mod Noted
