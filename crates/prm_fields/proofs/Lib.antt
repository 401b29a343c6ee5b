pub mod Bytes
pub mod Chains
pub mod Clear
pub mod Parts
pub mod Puts
pub mod Spelling
pub mod Values
