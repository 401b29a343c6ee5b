pub mod Bytes
pub mod LastWord
pub mod Opcode
pub mod Syndrome
pub mod Completion
pub mod Event
pub mod Search
