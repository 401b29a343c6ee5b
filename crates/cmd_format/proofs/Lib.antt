pub mod Xors
pub mod Entries
pub mod Blocks
