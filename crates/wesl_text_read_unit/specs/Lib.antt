pub mod Starts
pub mod Results
pub mod Wholes
