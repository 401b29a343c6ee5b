pub mod Encoded
pub mod Fits
pub mod PaddedHead
pub mod Pages
pub mod ParameterBlocks
pub mod Table
pub mod Words
pub mod Replies
