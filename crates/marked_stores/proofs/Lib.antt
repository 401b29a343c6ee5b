pub mod Places
pub mod Posters
pub mod Polls
pub mod Publications
pub mod Actors
pub mod Law
