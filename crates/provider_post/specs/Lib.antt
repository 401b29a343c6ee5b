pub mod Call
pub mod Left
pub mod Item
pub mod Note
pub mod Rule
pub mod Side
pub mod Queued
pub mod Inside
