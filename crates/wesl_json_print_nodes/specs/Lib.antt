pub mod Events
pub mod Lists
pub mod Printing
