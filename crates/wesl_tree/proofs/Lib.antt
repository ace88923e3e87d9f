mod Clones
mod Kept
