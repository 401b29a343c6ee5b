pub mod Bits
pub mod Layout
pub mod Names
pub mod Refusal
pub mod Spelling
