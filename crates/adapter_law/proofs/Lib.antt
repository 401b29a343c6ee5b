pub mod Keeps
pub mod Looks
pub mod Queues
pub mod Entries
pub mod Fetches
pub mod Publishes
pub mod Goes
