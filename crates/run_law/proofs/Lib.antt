pub mod EndGoes
pub mod StartHolds
pub mod Woven
pub mod Law
