pub mod Page
pub mod Status
pub mod Adapter
pub mod Faults
pub mod Calls
pub mod Ledger
pub mod HcaInside
