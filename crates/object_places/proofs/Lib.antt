pub mod Strides
pub mod Lines
pub mod Bounds
pub mod Standing
pub mod Fine
pub mod Ranges
pub mod Apart
pub mod Start
