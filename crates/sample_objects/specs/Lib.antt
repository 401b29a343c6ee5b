pub mod Pair
pub mod Requests
