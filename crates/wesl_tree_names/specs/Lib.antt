pub mod Path
pub mod PathText
pub mod PathOrder
pub mod Errors
pub mod PathLaws
pub mod PathRows
pub mod PathForm
