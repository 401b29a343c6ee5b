pub mod FreePlaces
pub mod Region
pub mod Keys
pub mod Faults
pub mod TableInside
pub mod Events
