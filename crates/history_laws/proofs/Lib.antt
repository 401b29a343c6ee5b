pub mod Answering
pub mod Waiting
pub mod Balance
pub mod Homes
pub mod Accounts
pub mod Queues
pub mod Keeping
pub mod Fronts
