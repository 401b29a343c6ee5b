pub mod Stretch
pub mod Calls
pub mod Drains
pub mod Adapter
pub mod Run
