pub mod Pages
pub mod Refusals
pub mod Sane
pub mod Held
