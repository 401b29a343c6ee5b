pub mod Command
pub mod Contexts
pub mod Encoding
pub mod Fault
pub mod Head
pub mod Kind
pub mod Reply
