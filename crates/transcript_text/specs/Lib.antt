pub mod Fields
pub mod Numbers
pub mod Commands
pub mod History
pub mod Trace
pub mod LineInside
pub mod ActorNames
