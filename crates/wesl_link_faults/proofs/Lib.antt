pub mod Asked
pub mod Rows
pub mod Empty
pub mod First
pub mod Placed
pub mod Opening
