pub mod Posting
pub mod Behind
pub mod OfNotes
pub mod Telling
