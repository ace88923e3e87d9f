pub mod Named
pub mod Imports
pub mod Units
pub mod Spanned
