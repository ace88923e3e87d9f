pub mod Parts
pub mod Wildcards
pub mod Variables
pub mod SimpleStatements
pub mod Bodies
