mod Faith
mod Misread
pub mod Steps
