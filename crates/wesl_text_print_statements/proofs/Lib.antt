pub mod Rows
pub mod Attributes
pub mod Variables
pub mod Views
pub mod SimpleStatements
pub mod Bodies
