pub mod Lists
pub mod Same
pub mod Moves
pub mod Ready
pub mod Served
