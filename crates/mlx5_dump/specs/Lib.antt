pub mod Kind
pub mod Hex
pub mod Answer
pub mod Line
pub mod Lines
pub mod Feeding
pub mod Status
pub mod Dump
