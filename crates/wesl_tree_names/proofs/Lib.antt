pub mod Texts
pub mod Supers
pub mod Order
pub mod ReadBack
pub mod Written
