pub mod News
pub mod Stores
