pub mod PlaceBits
pub mod KeysOfPlaces
pub mod MarkedPlaces
pub mod KeyHistory
pub mod KeyFaults
