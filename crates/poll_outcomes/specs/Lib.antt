pub mod Moves
pub mod Now
pub mod Outcome
pub mod Turn
