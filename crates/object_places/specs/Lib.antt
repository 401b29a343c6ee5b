pub mod Places
pub mod Objects
pub mod Apart
pub mod Words
