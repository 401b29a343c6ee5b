pub mod Delivery
pub mod Signature
pub mod Entry
pub mod Block
