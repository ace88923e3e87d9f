pub mod Lists
pub mod Entries
pub mod Indexing
pub mod Once
pub mod Whole
pub mod Answering
pub mod Runs
pub mod Seeking
