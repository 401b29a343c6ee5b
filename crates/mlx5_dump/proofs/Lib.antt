pub mod Blocks
pub mod Digits
pub mod Dumps
pub mod Entries
pub mod Fed
pub mod Kept
pub mod Progress
pub mod Rows
