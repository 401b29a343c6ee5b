pub mod Queues
pub mod Held
pub mod Inside
pub mod InsideCompletions
pub mod Tables
pub mod InsideAbstract
pub mod Ends
pub mod Beginning
