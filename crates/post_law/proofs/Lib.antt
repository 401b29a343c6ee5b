pub mod Outcome
pub mod Now
pub mod Calls
pub mod Ends
pub mod Legal
pub mod Goes
pub mod Law
