pub mod Texts
pub mod Sources
pub mod Linking
pub mod Asked
pub mod Line
pub mod Answers
